-- `chip_tables::count_named`: the entries passed that are not none are counted.
-- Assumes nothing.
use mathlib.Core.Path.{◌≡◌}
use mathlib.Core.Bool.{not}
use Prim.Native.Nat.{◌≤◌}
use lib.Dec.{eqb}
use lib.ListN.{get_or}
use Rattle.lists.specs.Below.{count_below}
use Rattle.rules.specs.Tables.{none}
use Rattle.chip_tables.proofs.count_named.Given as goal

abbrev pub invariant-loop-x : goal.invariant-loop-x
invariant-loop-x l = (l.k ≤ l.x-index) × (l.k ≡ count_below l.x-index (λ i. not (eqb (get_or l.table i none) none)))
