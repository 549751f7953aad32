-- The row of kept blocks, entry by entry: after v turns the first v entries of the row of full blocks are those of the kept ones.
-- Assumes nothing.
use mathlib.Core.Path.{◌≡◌}
use mathlib.Core.List.{List}
use Prim.Native.Nat.{ℕ, ◌≤◌, ◌<◌}
use lib.ListN.{get_or, length}
use Rattle.loops.proofs.Elements.{default}
use Rattle.rules.specs.Tables.{none}
use Rattle.check_pairs.specs.Rows.{kept_of, open_of}

-- two entries as they are read
module _ (full part : List ℕ) (v : ℕ) (a : v < length full) (b : v < length part) where
  pub open_read : open_of (get_or full v 0) (get_or part v 0) ≡ open_of (get_or full v none) (get_or part v none)
  open_read = rw (default full v 0 none a, default part v 0 none b)

pub record KeptTo (full part : List ℕ) (v : ℕ) (row : List ℕ) : Type 0 where
  pub size : length row ≡ length full
  pub done : (u : ℕ) → u < v → get_or row u none ≡ kept_of (get_or full u none) (get_or part u none)
  pub left : (u : ℕ) → v ≤ u → get_or row u none ≡ get_or full u none
