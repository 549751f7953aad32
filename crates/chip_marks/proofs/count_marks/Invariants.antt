-- `chip_marks::count_marks`: after w turns the marks of the first w words are counted.
-- Assumes nothing.
use mathlib.Core.Path.{◌≡◌}
use Prim.Native.Nat.{◌*◌, ◌≤◌}
use Rattle.lists.specs.Below.{count_below}
use Rattle.rules.specs.Marks.{Marks, table_of}
use Rattle.chip_marks.proofs.count_marks.Given as goal

abbrev pub invariant-loop-w : goal.invariant-loop-w
invariant-loop-w l = (l.n ≤ 64 * l.w) × ((m : Marks) → l.marks ≡ table_of l.p m → l.n ≡ count_below (64 * l.w) (m l.r l.v.0))
