-- What one turn adds to each search.
-- Assumes nothing.
use mathlib.Core.Path.{◌≡◌, refl}
use mathlib.Core.Bool.{true, false}
use mathlib.Core.List.{List}
use Prim.Native.Nat.{ℕ, ◌+◌, ◌≤◌, ◌<◌}
use native.Mathlib.Numerals.{add-one}
use native.Mathlib.Omega.{arith}
use lib.Dec.{eqb, ltb}
use lib.ListN.{length}
use borrow.Author.Tests.{eq-eqb, ne_eqb}
use Rattle.std.specs.Prelude.{IfSome, MatchOption, None, Option, Some, is_none}
use Rattle.lists.specs.Below.{least_below}
use Rattle.rules.specs.declared.PBlock.{PBlock}
use Rattle.rules.specs.declared.Params.{Params}
use Rattle.rules.specs.Tables.{none}
use Rattle.write_choose.specs.Search.{Compared, Pool, better, least_free}

-- ---- the free block

-- the best of the first i blocks, if one of them is free
abbrev pub Least : List ℕ → List ℕ → ℕ → Option PBlock → Type 0
Least bst wear i best = MatchOption best (least_free bst wear i ≡ none) (λ m. (m.0 ≡ least_free bst wear i) × (m.0 < i))

pub least_none : (bst wear : List ℕ) → least_free bst wear 0 ≡ none
unfolding least_below
least_none bst wear = refl

pub compared : (p : Params) (bst wear : List ℕ) → Pool p bst wear → (i : ℕ) (best : Option PBlock) → i < p.N → Least bst wear i best → Compared bst wear i best
compared p bst wear a i best h e = record { free = omega (arith, a.bst_length); low = omega (arith, a.wear_length); so_far = go best e }
  where
    go : (t : Option PBlock) → Least bst wear i t → IfSome t (λ m. m.0 < length wear)
    go None x = tt
    go (Some m) x = omega (arith, x.1, a.wear_length)

-- block i is taken
pub least_here : (bst wear : List ℕ) (i : ℕ) (best : Option PBlock) → i ≤ none → Least bst wear i best → better bst wear i best ≡ true → i ≡ least_free bst wear (i + 1)
unfolding least_below
least_here bst wear i None few e t = rw (add-one, e, t)
least_here bst wear i (Some m) few e t = rw (add-one, ← e.0, ne_eqb m.0 none (λ x. omega (arith, e.1, x)), t)

-- the best stays
pub least_later : (bst wear : List ℕ) (i : ℕ) (best : Option PBlock) → i ≤ none → Least bst wear i best → better bst wear i best ≡ false → Least bst wear (i + 1) best
unfolding least_below
least_later bst wear i None few e t = rw (add-one, e, t)
least_later bst wear i (Some m) few e t = (rw (add-one, ← e.0, ne_eqb m.0 none (λ x. omega (arith, e.1, x)), t), omega (arith, e.1))

-- ---- the lowest virtual block without a block

-- whether BT names a block, by what was answered for it
pub named_none : (o : Option PBlock) (x : ℕ) → MatchOption o (x ≡ none) (λ n. (n.0 ≡ x) × (n.0 < none)) → is_none o ≡ eqb x none
named_none None x h = rw (eq-eqb x none h)
named_none (Some n) x h = rw (ne_eqb x none (λ e. omega (arith, h.0, h.1, e)))

-- ---- the virtual block with fewest marks

pub fewest_first : (key : ℕ → ℕ) → 0 ≡ least_below key none 1 (λ u. true)
unfolding least_below
fewest_first key = refl

pub fewest_here : (key : ℕ → ℕ) (v m : ℕ) → v ≤ none → m < v → m ≡ least_below key none v (λ u. true) → ltb (key v) (key m) ≡ true → v ≡ least_below key none (v + 1) (λ u. true)
unfolding least_below
fewest_here key v m few low e t = rw (add-one, ← e, ne_eqb m none (λ x. omega (arith, x)), t)

pub fewest_later : (key : ℕ → ℕ) (v m : ℕ) → v ≤ none → m < v → m ≡ least_below key none v (λ u. true) → ltb (key v) (key m) ≡ false → m ≡ least_below key none (v + 1) (λ u. true)
unfolding least_below
fewest_later key v m few low e t = rw (add-one, ← e, ne_eqb m none (λ x. omega (arith, x)), t)
