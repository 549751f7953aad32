-- `cut_erases::count_listed`: after n turns, how many operations the blocks below n take, at most two each.
-- Assumes nothing.
use mathlib.Core.Path.{◌≡◌}
use Prim.Native.Nat.{◌*◌, ◌≤◌}
use lib.ListN.{length}
use Rattle.rules.proofs.Erases.{erases_below}
use Rattle.cut_erases.specs.Listed.{listed}
use Rattle.cut_erases.proofs.count_listed.Given as goal

abbrev pub invariant-loop-n : goal.invariant-loop-n
invariant-loop-n l = (l.k ≤ 2 * l.n) × (l.k ≡ length (erases_below l.p l.wear (listed l.bst) l.n))
