-- `check_marks::held_ok`: every word passed has marks of valid frames alone, of any view that shows the lent bytes.
-- Assumes nothing.
use mathlib.Core.Path.{◌≡◌}
use mathlib.Core.Bool.{true}
use Prim.Native.Nat.{◌≤◌}
use Rattle.lists.specs.Below.{all_below}
use Rattle.rules.specs.Regions.{View}
use Rattle.rules.specs.Marks.{marked}
use Rattle.check_marks.specs.Shown.{Shows, word_only}
use Rattle.check_marks.proofs.held_ok.Given as goal

abbrev pub invariant-loop-w : goal.invariant-loop-w
invariant-loop-w l = (l.w ≤ 4) × ((vw : View) → Shows l.p l.r l.v.0 l.blk l.ct vw → all_below l.w (word_only l.p l.marks l.r l.v.0 (marked l.p vw l.v.0)) ≡ true)
