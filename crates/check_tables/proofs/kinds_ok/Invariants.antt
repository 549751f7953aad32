-- `check_tables::kinds_ok`: every block passed is 0, 1 or 2, and those that are used are counted.
-- Assumes nothing.
use mathlib.Core.Path.{◌≡◌}
use mathlib.Core.Bool.{true}
use Prim.Native.Nat.{◌≤◌}
use lib.Dec.{eqb, leb}
use Rattle.lists.specs.Below.{all_below, count_below}
use Rattle.rules.specs.Tables.{bst_at}
use Rattle.check_tables.proofs.kinds_ok.Given as goal

abbrev pub invariant-loop-s : goal.invariant-loop-s
invariant-loop-s l = (l.used ≤ l.s-index) × (all_below l.s-index (λ n. leb (bst_at l.bst n) 2) ≡ true) × (l.used ≡ count_below l.s-index (λ n. eqb (bst_at l.bst n) 1))
