-- What the searches ask, and what they have found so far.
-- Assumes nothing.
use Rattle.std.specs.Prelude.{◌≡◌, Bool, true, ◌&&◌, List, ℕ, ◌<◌, eqb, ltb, length, IfSome, None, Option, Some}
use Rattle.lists.specs.Below.{count_below, least_below, first_below}
use Rattle.rules.specs.declared.Params.{Params}
use Rattle.rules.specs.declared.PBlock.{PBlock}
use Rattle.rules.specs.Parameters.{allowed}
use Rattle.rules.specs.Tables.{none, not_found, bt_at, bst_at, wear_at, marks_length}
use Rattle.rules.specs.Marks.{Marks}

-- BST and wear of all N blocks
pub record Pool (p : Params) (bst wear : List ℕ) : Type 0 where
  pub fine : allowed p ≡ true
  pub bst_length : length bst ≡ p.N
  pub wear_length : length wear ≡ p.N

-- block i of the pool, and the best so far, if there is one
pub record Compared (bst wear : List ℕ) (i : ℕ) (best : Option PBlock) : Type 0 where
  pub free : i < length bst
  pub low : i < length wear
  pub so_far : IfSome best (λ m. m.0 < length wear)

-- a region's marks, in a table as long as it has to be
pub record RegionMarks (p : Params) (marks : List ℕ) (r : ℕ) : Type 0 where
  pub fine : allowed p ≡ true
  pub long : length marks ≡ marks_length p
  pub region : r < p.mu

-- block i is free, and there is no best so far, or it is more worn
abbrev pub better : List ℕ → List ℕ → ℕ → Option PBlock → Bool
better bst wear i None = eqb (bst_at bst i) 0
better bst wear i (Some m) = eqb (bst_at bst i) 0 && ltb (wear_at wear i) (wear_at wear m.0)

-- the best of the first n blocks
abbrev pub least_free : List ℕ → List ℕ → ℕ → ℕ
least_free bst wear n = least_below (wear_at wear) not_found n (λ i. eqb (bst_at bst i) 0)

-- the lowest of the first n virtual blocks of region r that BT gives no block
unfoldable pub lowest_none : Params → List ℕ → ℕ → ℕ → ℕ
lowest_none p bt r n = first_below not_found n (λ v. eqb (bt_at p bt r v) none)

-- of the first n virtual blocks of region r the one with fewest marks
abbrev pub least_marked : Marks → ℕ → ℕ → ℕ
least_marked m r n = least_below (λ v. count_below 256 (m r v)) not_found n (λ v. true)
