-- A loop over the elements of a list: what one turn adds to the test that all are 255 and to a copy.
-- Assumes nothing.
use mathlib.Core.Path.{ap, refl, sym, ◌∙◌, ◌≡◌}
use mathlib.Core.Logic.{⊎_elim}
use mathlib.Core.Bool.{◌&&◌, Bool, and_assoc, and-false, and-true, false, true}
use mathlib.Core.List.{◌++◌, List, [], ◌∷◌}
use Prim.Native.Nat.{◌*◌, ◌+◌, ◌<◌, suc, zero, ℕ, ◌≤◌}
use native.Mathlib.Nat.{add-mul, eq-or-lt_of_le, le_of_lt, one-mul}
use native.Mathlib.Numerals.{add-one}
use native.Mathlib.Omega.{arith}
use lib.Bits.{and_le_l, and_le_r, and_self, bit_and}
use lib.Dec.{eqb}
use lib.ListN.{drop, get_or, length, set, take, take-append-drop}
use lib.Seq.{append_snoc, drop-cons, drop-drop, length-take-le, set_at, take-add, take_all, take-suc}
use borrow.Author.Tests.{eq-eqb, ne_eqb}
use Rattle.lists.specs.Parts.{all_are, part}

-- ---- every element is x

all_append : (x : ℕ) (a b : List ℕ) → all_are x (a ++ b) ≡ all_are x a && all_are x b
unfolding all_are
all_append x [] b = refl
all_append x (y ∷ a) b = rw (all_append x a b) (sym (and_assoc (eqb y x) (all_are x a) (all_are x b)))

all_step : (x : ℕ) (s : List ℕ) (i : ℕ) → i < length s → all_are x (take (i + 1) s) ≡ all_are x (take i s) && eqb (get_or s i 0) x
unfolding all_are
all_step x s i h = rw (add-one, take-suc s i 0, all_append, and-true)

pub all_none : (x : ℕ) (s : List ℕ) → true ≡ all_are x (take 0 s)
unfolding all_are
all_none x s = refl

-- the bits that two numbers of at most m have in common are m exactly if both are m
pub both_full : (m a x : ℕ) → a ≤ m → x ≤ m → eqb (bit_and a x) m ≡ eqb a m && eqb x m
both_full m a x ha hx =
    ⊎_elim
    (λ (e : a ≡ m). ⊎_elim (λ (f : x ≡ m). rw (e, f, and_self m, eq-eqb m m refl))
    (λ (l : x < m). rw (ne_eqb x m (λ g. omega arith), and-false) (ne_eqb (bit_and a x) m (λ g. omega (arith, and_le_r a x))))
    (eq-or-lt_of_le {n = x} {m = m} hx))
    (λ (l : a < m). rw (ne_eqb a m (λ g. omega arith)) (ne_eqb (bit_and a x) m (λ g. omega (arith, and_le_l a x))))
    (eq-or-lt_of_le {n = a} {m = m} ha)

-- a turn of the loop that gathers the bits that all bytes have
pub bits_more : (s : List ℕ) (i a : ℕ) → i < length s → a < 256 → get_or s i 0 < 256 → eqb a 255 ≡ all_are 255 (take i s)
    → (bit_and a (get_or s i 0) < 256) × (eqb (bit_and a (get_or s i 0)) 255 ≡ all_are 255 (take (i + 1) s))
bits_more s i a h ha hx e = (
  omega (arith, and_le_l a (get_or s i 0)),
  both_full 255 a (get_or s i 0) (omega arith) (omega arith) ∙ ap (λ (t : Bool). t && eqb (get_or s i 0) 255) e ∙ sym (all_step 255 s i h),
)

pub all_done : (x : ℕ) (s : List ℕ) (i : ℕ) (ok : Bool) → length s ≤ i → ok ≡ all_are x (take i s) → ok ≡ all_are x s
all_done x s i ok h k = k ∙ ap (all_are x) (take_all i s h)

-- piece by piece
pub all_pieces : (x n : ℕ) (s : List ℕ) → all_are x s ≡ all_are x (take n s) && all_are x (drop n s)
all_pieces x n s = ap (all_are x) (sym (take-append-drop n s)) ∙ all_append x (take n s) (drop n s)

pub all_longer : (x n w : ℕ) (s : List ℕ) → all_are x (take (n + w) s) ≡ all_are x (take n s) && all_are x (take w (drop n s))
all_longer x n w s = ap (all_are x) (take-add n w s) ∙ all_append x (take n s) (take w (drop n s))

-- part by part
pub parts_next : (x w i : ℕ) (s : List ℕ) → all_are x (take ((i + 1) * w) s) ≡ all_are x (take (i * w) s) && all_are x (part w i s)
unfolding part
parts_next x w i s =
    let e : (i + 1) * w ≡ i * w + w = omega (arith, add-mul i 1 w, one-mul w) in
    rw e (all_longer x (i * w) w s)

pub parts_more : (x w i : ℕ) (s : List ℕ) → all_are x (take (i * w) s) ≡ true → all_are x (part w i s) ≡ true → all_are x (take ((i + 1) * w) s) ≡ true
parts_more x w i s h k = parts_next x w i s ∙ rw (h, k)

pub parts_fail : (x w i : ℕ) (s : List ℕ) → all_are x (part w i s) ≡ false → false ≡ all_are x s
unfolding part
parts_fail x w i s e =
    sym (and-false (all_are x (take (i * w) s))) ∙ ap (λ (t : Bool). all_are x (take (i * w) s) && t) rest ∙ sym (all_pieces x (i * w) s)
  where
    rest : false ≡ all_are x (drop (i * w) s)
    rest = rw (all_pieces x w (drop (i * w) s), e)

-- part i of the list from part h on
pub part_from : (w h i : ℕ) (s : List ℕ) → part w i (drop (h * w) s) ≡ part w (h + i) s
unfolding part
part_from w h i s =
    let e : (h + i) * w ≡ h * w + i * w = add-mul h i w in
    rw (e, drop-drop (i * w) (h * w) s)

-- ---- a copy

-- b is copied to the head of d
pub copy_more : (d b : List ℕ) (i : ℕ) → i < length d → i < length b → set (take i b ++ drop i d) i (get_or b i 0) ≡ take (i + 1) b ++ drop (i + 1) d
copy_more d b i hd hb =
    rw (drop-cons d i 0 hd)
    (set_at (take i b) (get_or d i 0) (drop (suc i) d) (get_or b i 0) i (length-take-le i b (le_of_lt hb))
    ∙ sym (append_snoc (take i b) (get_or b i 0) (drop (suc i) d))
    ∙ rw (add-one, take-suc b i 0))

-- ---- an element that is there, whatever is said of one past the end

pub default : (l : List ℕ) (i a b : ℕ) → i < length l → get_or l i a ≡ get_or l i b
default [] i a b h = absurd (omega arith)
default (x ∷ l) zero a b h = refl
default (x ∷ l) (suc i) a b h = default l i a b (omega arith)
