-- A loop over the numbers below n: what one turn adds to a test of all, to a count, and to a search from below or from above.
-- Assumes nothing.
use mathlib.Core.Path.{◌≡◌, refl}
use mathlib.Core.Logic.{◌⊎◌, inl, inr}
use mathlib.Core.Bool.{Bool, true, false, ◌&&◌, and-false, cond}
use Prim.Native.Nat.{ℕ, zero, suc, ◌+◌, ◌≤◌, ◌<◌}
use native.Mathlib.Numerals.{add-one}
use native.Mathlib.Nat.{add-zero}
use native.Mathlib.Decide.{dec_lt, ℕ_discrete}
use native.Mathlib.Omega.{arith}
use lib.Dec.{eqb}
use borrow.Author.Tests.{eq-eqb, ne_eqb}
use Rattle.lists.specs.Below.{all_below, count_below, first_below, last_below}
use Rattle.lists.proofs.Tests.{all_at, so, never}

-- ---- every number passes

pub all_start : (f : ℕ → Bool) → all_below 0 f ≡ true
unfolding all_below
all_start f = refl

pub all_more : (i : ℕ) (f : ℕ → Bool) → all_below i f ≡ true → f i ≡ true → all_below (i + 1) f ≡ true
unfolding all_below
all_more i f h k = rw (add-one, h, k)

pub all_fails : (n i : ℕ) (f : ℕ → Bool) → i < n → f i ≡ false → all_below n f ≡ false
all_fails n i f h k = go (so (all_below n f))
  where
    go : (all_below n f ≡ true) ⊎ (all_below n f ≡ false) → all_below n f ≡ false
    go (inl e) = absurd (never (all_at n f e i h) k)
    go (inr e) = e

pub all_end : (n i : ℕ) (f : ℕ → Bool) → i ≡ n → all_below i f ≡ true → all_below n f ≡ true
all_end n i f e h = rw e at h

-- ---- a count

pub count_start : (f : ℕ → Bool) → ◌≡◌ {A = ℕ} 0 (count_below 0 f)
unfolding count_below
count_start f = refl

pub count_yes : (i k : ℕ) (f : ℕ → Bool) → k ≡ count_below i f → f i ≡ true → k + 1 ≡ count_below (i + 1) f
unfolding count_below
count_yes i k f h e = rw (add-one i, e, h)

pub count_no : (i k : ℕ) (f : ℕ → Bool) → k ≡ count_below i f → f i ≡ false → k ≡ count_below (i + 1) f
unfolding count_below
count_no i k f h e = rw (add-one i, e, h, add-zero)

-- those that do not pass do not count
pub count_skip : (n m : ℕ) (f : ℕ → Bool) → m ≤ n → ((j : ℕ) → m ≤ j → j < n → f j ≡ false) → count_below n f ≡ count_below m f
unfolding count_below
count_skip zero m f h k = let e : m ≡ 0 = omega arith in rw e
count_skip (suc n) m f h k = go (dec_lt n m) (count_skip n m f)
  where
    go : Dec (n < m) → (m ≤ n → ((j : ℕ) → m ≤ j → j < n → f j ≡ false) → count_below n f ≡ count_below m f) → count_below n f + cond (f n) 1 0 ≡ count_below m f
    go (yes a) rec = let e : m ≡ suc n = omega arith in rw e
    go (no a) rec = rw (k n (omega arith) (omega arith), add-zero) (rec (omega arith) (λ j x y. k j x (omega arith)))

-- ---- the first that passes

pub first_start : (o : ℕ) (f : ℕ → Bool) → first_below o 0 f ≡ o
unfolding first_below
first_start o f = refl

pub first_later : (o i : ℕ) (f : ℕ → Bool) → first_below o i f ≡ o → f i ≡ false → first_below o (i + 1) f ≡ o
unfolding first_below
first_later o i f h e = rw (add-one, e, and-false) h

pub first_here : (o n i : ℕ) (f : ℕ → Bool) → n ≤ o → i < n → first_below o i f ≡ o → f i ≡ true → first_below o n f ≡ i
unfolding first_below
first_here o zero i f few l h e = absurd (omega arith)
first_here o (suc n) i f few l h e = go (ℕ_discrete i n) (λ k. first_here o n i f (omega arith) k h e)
  where
    go : Dec (i ≡ n) → (i < n → first_below o n f ≡ i) → cond (eqb (first_below o n f) o && f n) n (first_below o n f) ≡ i
    go (yes d) below = rw (← d, h, eq-eqb o o refl, e)
    go (no d) below = rw (below (omega arith), ne_eqb i o (λ x. omega arith))

-- ---- the last that passes, from above

pub last_skip : (o n m : ℕ) (f : ℕ → Bool) → m ≤ n → ((j : ℕ) → m ≤ j → j < n → f j ≡ false) → last_below o n f ≡ last_below o m f
unfolding last_below
last_skip o zero m f h k = let e : m ≡ 0 = omega arith in rw e
last_skip o (suc n) m f h k = go (dec_lt n m) (last_skip o n m f)
  where
    go : Dec (n < m) → (m ≤ n → ((j : ℕ) → m ≤ j → j < n → f j ≡ false) → last_below o n f ≡ last_below o m f) → cond (f n) n (last_below o n f) ≡ last_below o m f
    go (yes a) rec = let e : m ≡ suc n = omega arith in rw e
    go (no a) rec = rw (k n (omega arith) (omega arith)) (rec (omega arith) (λ j x y. k j x (omega arith)))

pub last_here_lem : (o i : ℕ) (f : ℕ → Bool) → f i ≡ true → last_below o (i + 1) f ≡ i
unfolding last_below
last_here_lem o i f e = rw (add-one, e)

pub last_lower : (o i : ℕ) (f : ℕ → Bool) → f i ≡ false → last_below o (i + 1) f ≡ last_below o i f
unfolding last_below
last_lower o i f e = rw (add-one, e)
