-- Words of marks: a word is its highest bit and the word below it, and each law goes down by that.
-- Assumes nothing.
use mathlib.Core.Path.{ap, refl, sym, ◌∙◌, ◌≡◌}
use mathlib.Core.Bool.{◌&&◌, ◌||◌, Bool, cond, false, not, true}
use Prim.Native.Nat.{◌%◌, ◌*◌, ◌+◌, ◌-◌, ◌/◌, ◌<◌, ◌^◌, ◌≤◌, suc, zero, ℕ}
use native.Mathlib.Nat.{mod-eq_of_lt, one-mul, pow-suc, sub-add_cancel, zero-mul}
use native.Mathlib.Numerals.{one-add}
use native.Mathlib.Decide.{ℕ_discrete}
use native.Mathlib.Omega.{arith}
use lib.Bits.{and_block, bit_and, bit_or, or_block}
use lib.Count.{ones, ones_cat}
use lib.Dec.{eqb, lit<, ltb}
use lib.Pow.{field, high, low, mod-mod-pow, mod-pow-add, shl_exact}
use borrow.Author.Tests.{eq-eqb, le-ltb, lt-ltb, ne_eqb}
use Rattle.lists.specs.Below.{count_below, updated, bits_below}

-- a mark as a bit
abbrev digit : Bool → ℕ
digit b = cond b 1 0

-- ---- the highest bit, and the word below it

block : (n : ℕ) (f : ℕ → Bool) → bits_below (suc n) f ≡ digit (f n) * 2 ^ n + bits_below n f
unfolding bits_below
block n f = go (f n)
  where
    go : (t : Bool) → bits_below n f + cond t (2 ^ n) 0 ≡ digit t * 2 ^ n + bits_below n f
    go true = rw one-mul (omega arith)
    go false = rw zero-mul (omega arith)

pub bits_lt : (n : ℕ) (f : ℕ → Bool) → bits_below n f < 2 ^ n
unfolding bits_below
bits_lt zero f = omega arith
bits_lt (suc n) f = go (f n) (bits_lt n f)
  where
    go : (t : Bool) → bits_below n f < 2 ^ n → bits_below n f + cond t (2 ^ n) 0 < 2 ^ suc n
    go true h = omega (arith, pow-suc 2 n)
    go false h = omega (arith, pow-suc 2 n)

-- marks that agree below n give the same word
pub bits_cong : (n : ℕ) (f g : ℕ → Bool) → ((i : ℕ) → i < n → f i ≡ g i) → bits_below n f ≡ bits_below n g
unfolding bits_below
bits_cong zero f g h = refl
bits_cong (suc n) f g h = rw (h n (omega arith), bits_cong n f g (λ i k. h i (omega arith)))

pub bits_none : (n : ℕ) (f : ℕ → Bool) → ((i : ℕ) → i < n → f i ≡ false) → bits_below n f ≡ 0
unfolding bits_below
bits_none zero f h = refl
bits_none (suc n) f h = rw (h n (omega arith), bits_none n f (λ i k. h i (omega arith)))

-- ---- the machine's operations

start : (f : ℕ → Bool) → bits_below 0 f ≡ 0
unfolding bits_below
start f = refl

pub bits_and : (n : ℕ) (f g : ℕ → Bool) → bit_and (bits_below n f) (bits_below n g) ≡ bits_below n (λ i. f i && g i)
bits_and zero f g = rw (start f, start (λ i. f i && g i))
bits_and (suc n) f g =
    rw (block n f, block n g, block n (λ i. f i && g i), and_block n (digit (f n)) (digit (g n)) (bits_below n f) (bits_below n g) (bits_lt n f) (bits_lt n g), bits_and n f g)
    (ap (λ (x : ℕ). x * 2 ^ n + bits_below n (λ i. f i && g i)) (both (f n) (g n)))
  where
    both : (a b : Bool) → bit_and (digit a) (digit b) ≡ digit (a && b)
    both true true = refl
    both true false = refl
    both false b = refl

pub bits_or : (n : ℕ) (f g : ℕ → Bool) → bit_or (bits_below n f) (bits_below n g) ≡ bits_below n (λ i. f i || g i)
bits_or zero f g = rw (start f, start g, start (λ i. f i || g i))
bits_or (suc n) f g =
    rw (block n f, block n g, block n (λ i. f i || g i), or_block n (digit (f n)) (digit (g n)) (bits_below n f) (bits_below n g) (bits_lt n f) (bits_lt n g), bits_or n f g)
    (ap (λ (x : ℕ). x * 2 ^ n + bits_below n (λ i. f i || g i)) (either (f n) (g n)))
  where
    either : (a b : Bool) → bit_or (digit a) (digit b) ≡ digit (a || b)
    either true true = refl
    either true false = refl
    either false true = refl
    either false false = refl

complement : (n : ℕ) (f : ℕ → Bool) → bits_below n f + bits_below n (λ i. not (f i)) + 1 ≡ 2 ^ n
unfolding bits_below
complement zero f = refl
complement (suc n) f = go (f n) (complement n f)
  where
    go : (t : Bool) → bits_below n f + bits_below n (λ i. not (f i)) + 1 ≡ 2 ^ n
        → bits_below n f + cond t (2 ^ n) 0 + (bits_below n (λ i. not (f i)) + cond (not t) (2 ^ n) 0) + 1 ≡ 2 ^ suc n
    go true h = omega (arith, pow-suc 2 n)
    go false h = omega (arith, pow-suc 2 n)

pub bits_not : (n : ℕ) (f : ℕ → Bool) → (2 ^ n - 1) - bits_below n f ≡ bits_below n (λ i. not (f i))
bits_not n f = omega (arith, complement n f)

-- the word of one mark
pub bits_one : (n i : ℕ) → i < n → bits_below n (λ j. eqb j i) ≡ 2 ^ i
unfolding bits_below
bits_one zero i h = absurd (omega arith)
bits_one (suc n) i h = go (ℕ_discrete n i) (bits_one n i)
  where
    go : Dec (n ≡ i) → (i < n → bits_below n (λ j. eqb j i) ≡ 2 ^ i) → bits_below n (λ j. eqb j i) + cond (eqb n i) (2 ^ n) 0 ≡ 2 ^ i
    go (yes e) below = rw (eq-eqb n i e, bits_none n (λ j. eqb j i) (λ j k. ne_eqb j i (λ q. absurd (omega arith))), e) (omega arith)
    go (no e) below = rw (ne_eqb n i e, below (omega arith)) (omega arith)

-- `1 << i`, as the machine has it
pub one_shl : (i : ℕ) → i < 64 → (1 * 2 ^ i) % 2 ^ 64 ≡ 2 ^ i
one_shl i h = shl_exact 1 i 64 (lit< tt) (omega arith) ∙ one-mul (2 ^ i)

-- ---- one mark set, cleared and read

or_updated : (f : ℕ → Bool) (i j : ℕ) → f j || eqb j i ≡ updated f i true j
unfolding updated
or_updated f i j = go (f j) (eqb j i)
  where
    go : (a t : Bool) → a || t ≡ cond t true a
    go true true = refl
    go true false = refl
    go false true = refl
    go false false = refl

and_updated : (f : ℕ → Bool) (i j : ℕ) → f j && not (eqb j i) ≡ updated f i false j
unfolding updated
and_updated f i j = go (f j) (eqb j i)
  where
    go : (a t : Bool) → a && not t ≡ cond t false a
    go true true = refl
    go true false = refl
    go false true = refl
    go false false = refl

pub bits_set : (n : ℕ) (f : ℕ → Bool) (i : ℕ) → i < n → bit_or (bits_below n f) (2 ^ i) ≡ bits_below n (updated f i true)
bits_set n f i h = rw (← bits_one n i h, bits_or n f (λ j. eqb j i)) (bits_cong n _ _ (λ j k. or_updated f i j))

pub bits_clear : (n : ℕ) (f : ℕ → Bool) (i : ℕ) → i < n → bit_and (bits_below n f) ((2 ^ n - 1) - 2 ^ i) ≡ bits_below n (updated f i false)
bits_clear n f i h =
    rw (← bits_one n i h, bits_not n (λ j. eqb j i), bits_and n f (λ j. not (eqb j i))) (bits_cong n _ _ (λ j k. and_updated f i j))

-- the lowest m bits of a word
bits_low : (n m : ℕ) (f : ℕ → Bool) → m ≤ n → bits_below n f % 2 ^ m ≡ bits_below m f
bits_low zero m f h = let e : m ≡ 0 = omega arith in rw e (mod-eq_of_lt (bits_lt zero f))
bits_low (suc n) m f h = go (ℕ_discrete m (suc n)) (bits_low n m f)
  where
    go : Dec (m ≡ suc n) → (m ≤ n → bits_below n f % 2 ^ m ≡ bits_below m f) → bits_below (suc n) f % 2 ^ m ≡ bits_below m f
    go (yes e) below = rw e (mod-eq_of_lt (bits_lt (suc n) f))
    go (no e) below =
        let k : m ≤ n = omega arith in
        sym (mod-mod-pow (bits_below (suc n) f) (n - m) m)
        ∙ rw (sub-add_cancel k, block n f, low (digit (f n)) n (bits_lt n f)) (below k)

-- bit i of a word, as a mark
pub bits_at : (n : ℕ) (f : ℕ → Bool) (i : ℕ) → i < n → eqb (bits_below n f / 2 ^ i % 2) 1 ≡ f i
bits_at n f i h =
    rw (← field (bits_below n f) 1 i, one-add i, bits_low n (suc i) f h, block i f, high (digit (f i)) i (bits_lt i f)) (go (f i))
  where
    go : (t : Bool) → eqb (digit t) 1 ≡ t
    go true = refl
    go false = refl

-- ---- a number is the word of its bits

as_digit : (d : ℕ) → d < 2 → d ≡ digit (eqb d 1)
as_digit zero h = refl
as_digit (suc zero) h = refl
as_digit (suc (suc d)) h = absurd (omega arith)

bits_mod : (n x : ℕ) → x % 2 ^ n ≡ bits_below n (λ i. eqb (x / 2 ^ i % 2) 1)
bits_mod zero x = rw (start (λ i. eqb (x / 2 ^ i % 2) 1)) (omega arith)
bits_mod (suc n) x =
    rw (← one-add n, mod-pow-add x 1 n, bits_mod n x, one-add n, block n (λ i. eqb (x / 2 ^ i % 2) 1))
    (ap (λ (d : ℕ). d * 2 ^ n + bits_below n (λ i. eqb (x / 2 ^ i % 2) 1)) (as_digit (x / 2 ^ n % 2) (omega arith)))

pub bits_of : (n x : ℕ) → x < 2 ^ n → x ≡ bits_below n (λ i. eqb (x / 2 ^ i % 2) 1)
bits_of n x h = sym (mod-eq_of_lt h) ∙ bits_mod n x

-- ---- the first marks, and how many there are

bits_full : (n : ℕ) (f : ℕ → Bool) → ((i : ℕ) → i < n → f i ≡ true) → bits_below n f + 1 ≡ 2 ^ n
unfolding bits_below
bits_full zero f h = refl
bits_full (suc n) f h = rw (h n (omega arith)) (omega (arith, bits_full n f (λ i k. h i (omega arith)), pow-suc 2 n))

pub bits_first : (n k : ℕ) → k ≤ n → bits_below n (λ i. ltb i k) ≡ 2 ^ k - 1
unfolding bits_below
bits_first zero k h = let e : k ≡ 0 = omega arith in rw e
bits_first (suc n) k h = go (ℕ_discrete k (suc n)) (bits_first n k)
  where
    go : Dec (k ≡ suc n) → (k ≤ n → bits_below n (λ i. ltb i k) ≡ 2 ^ k - 1) → bits_below n (λ i. ltb i k) + cond (ltb n k) (2 ^ n) 0 ≡ 2 ^ k - 1
    go (yes e) below =
        rw (lt-ltb n k (omega arith)) (omega (arith, bits_full n (λ i. ltb i k) (λ i l. lt-ltb i k (omega arith)), ap (λ (x : ℕ). 2 ^ x) e, pow-suc 2 n))
    go (no e) below = rw (le-ltb n k (omega arith), below (omega arith)) (omega arith)

ones_digit : (t : Bool) → ones (digit t) ≡ cond t 1 0
unfolding ones
ones_digit true = refl
ones_digit false = refl

pub bits_count : (n : ℕ) (f : ℕ → Bool) → ones (bits_below n f) ≡ count_below n f
unfolding count_below bits_below ones
bits_count zero f = refl
bits_count (suc n) f =
    rw (block n f, ones_cat n (digit (f n)) (bits_below n f) (bits_lt n f), bits_count n f, ones_digit (f n)) (omega arith)
