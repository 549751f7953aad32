-- `check_marks::word_ok`: each bit passed is that of a valid frame or clear; what is left of the word has the other bits.
-- Assumes nothing.
use mathlib.Core.Path.{◌≡◌}
use mathlib.Core.Bool.{true}
use Prim.Native.Nat.{ℕ, ◌*◌, ◌+◌, ◌-◌, ◌/◌, ◌^◌, ◌≤◌}
use Rattle.lists.specs.Below.{all_below}
use Rattle.rules.specs.Regions.{View}
use Rattle.rules.specs.Marks.{marked}
use Rattle.check_marks.specs.Shown.{Shows}
use Rattle.check_marks.proofs.Words.{only}
use Rattle.check_marks.proofs.word_ok.Given as goal

abbrev pub invariant-loop-rest : goal.invariant-loop-rest
invariant-loop-rest l =
    (l.i ≤ 64) × (l.k ≡ (64 * l.w + l.i) / l.p.beta) × (l.rest ≡ l.word / 2 ^ l.i)
    × ((r : ℕ) (vw : View) → Shows l.p r l.v.0 l.blk l.ct vw → all_below l.i (only (marked l.p vw l.v.0) l.w l.word) ≡ true)

abbrev pub decreases-loop-rest : goal.decreases-loop-rest
decreases-loop-rest l = 64 - l.i
