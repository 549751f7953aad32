-- A field read as a number: what one more digit changes, the bound of i digits, and each way in which a field is no number.
-- Assumes nothing.
use mathlib.Core.Path.{◌≡◌, refl, sym}
use Prim.Native.Nat.{ℕ, ◌+◌, ◌-◌, ◌*◌, ◌^◌, ◌≤◌, ◌<◌}
use mathlib.Core.Bool.{Bool, true, false, true≢false, ◌&&◌}
use mathlib.Core.List.{List, ◌∷◌}
use native.Mathlib.Nat.{pow-suc}
use native.Mathlib.Numerals.{add-one}
use native.Mathlib.Omega.{arith}
use borrow.Author.Tests.{le-leb, lt-leb}
use Rattle.std.specs.Ordering.{is_le, nat_cmp}
use lib.Dec.{leb}
use lib.ListN.{length, drop, get_or, drop_of_length-le}
use lib.Seq.{drop-cons}
use Rattle.lists.proofs.Tests.{and_no, and_intro}
use Rattle.demo_lines.specs.Grammar.{is_digit, all_digits, value_from, value_of, is_number}

-- the bytes from i on are the one at i and those from i + 1 on
next : (s : List ℕ) (i : ℕ) → i < length s → drop i s ≡ get_or s i 0 ∷ drop (i + 1) s
next s i h = rw (add-one, ← drop-cons s i 0 h)

-- ---- a loop over the digits

pub digits_turn : (f : List ℕ) (i : ℕ) → i < length f → is_digit (get_or f i 0) ≡ true → all_digits (drop i f) ≡ all_digits (drop (i + 1) f)
unfolding all_digits
digits_turn f i h e = rw (next f i h, e)

pub digits_stop : (f : List ℕ) (i : ℕ) → i < length f → is_digit (get_or f i 0) ≡ false → all_digits (drop i f) ≡ false
unfolding all_digits
digits_stop f i h e = rw (next f i h, e)

pub digits_end : (f : List ℕ) (i : ℕ) → length f ≤ i → all_digits (drop i f) ≡ true
unfolding all_digits
digits_end f i h = rw (drop_of_length-le f h)

pub value_turn : (f : List ℕ) (i v : ℕ) → i < length f → value_from v (drop i f) ≡ value_from (v * 10 + (get_or f i 0 - 48)) (drop (i + 1) f)
unfolding value_from
value_turn f i v h = rw (next f i h)

pub value_end : (f : List ℕ) (i v : ℕ) → length f ≤ i → value_from v (drop i f) ≡ v
unfolding value_from
value_end f i v h = rw (drop_of_length-le f h)

-- i digits say less than 10 to the power of i
pub bound_turn : (v d i : ℕ) → v < 10 ^ i → d ≤ 9 → v * 10 + d < 10 ^ (i + 1)
bound_turn v d i h k = rw (add-one, pow-suc) (omega arith)

-- ---- the verdict

-- an order's answer is the test
le_test : (a b : ℕ) → is_le (nat_cmp a b) ≡ leb a b
le_test a b = grind arith

no_front : (a b c : Bool) → a && b ≡ false → a && (b && c) ≡ false
no_front true false c e = refl
no_front true true c e = absurd (true≢false e)
no_front false b c e = refl

pub not_of_length : (most : ℕ) (f : List ℕ) → false ≡ is_le (nat_cmp 1 (length f)) && is_le (nat_cmp (length f) 10) → is_number most f ≡ false
unfolding is_number
not_of_length most f e = no_front (leb 1 (length f)) (leb (length f) 10) _ (sym (rw (le_test 1 (length f), le_test (length f) 10) at e))

pub no_digits : (most : ℕ) (f : List ℕ) → all_digits f ≡ false → is_number most f ≡ false
unfolding is_number
no_digits most f e = and_no (leb 1 (length f)) (and_no (leb (length f) 10) (rw e))

pub too_large : (most : ℕ) (f : List ℕ) → most < value_of f → is_number most f ≡ false
unfolding is_number
too_large most f h = and_no (leb 1 (length f)) (and_no (leb (length f) 10) (and_no (all_digits f) (lt-leb (value_of f) most h)))

pub accepted : (most : ℕ) (f : List ℕ) → 0 < length f → length f ≤ 10 → all_digits f ≡ true → value_of f ≤ most → is_number most f ≡ true
unfolding is_number
accepted most f n w d h =
    and_intro (le-leb 1 (length f) (omega arith)) (and_intro (le-leb (length f) 10 w) (and_intro d (le-leb (value_of f) most h)))
