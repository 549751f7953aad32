-- `c_queue::turns`: after i turns what is left to serve comes to the same as the whole.
-- Assumes nothing.
use mathlib.Core.Path.{refl, ◌∙◌}
use native.Mathlib.Omega.{arith}
use Rattle.rules.specs.Tables.{Board, board_of}
use Rattle.c_queue.proofs.Taking.{asked, done, next, start}
use Rattle.c_queue.proofs.turns.Goals as goal
use Rattle.c_queue.proofs.turns.Goals.{Start}

abbrev board : Start → Board
board a = board_of a.args.chip.now a.args.ct.now a.args.bt.now a.args.fst.now a.args.bst.now a.args.wear.now a.args.marks.now a.args.stamps.now

pub loop-i-init : goal.loop-i-init
loop-i-init c = (omega arith, record { chip = refl; ct = refl; bt = refl; fst = refl; bst = refl; wear = refl; marks = refl; stamps = refl; answers = refl }, λ k. start _ _ _ _ _ (board (goal.at.loop-i-init c).Start) _ k)

pub turn-requires : goal.turn-requires
turn-requires c =
    let inv = c.loop-i.invariant in
    record {
      ready = (inv.2 c.requires).ready (omega (arith, c.loop-i-test.true));
      turn_asked = asked _ _ _ c.args.bytes.now _ (board (goal.at.turn-requires c).Start) _ c.requires _ c.loop-i-test.true _ inv.1.answers;
    }

pub loop-i-preserved : goal.loop-i-preserved
loop-i-preserved c =
    let inv = c.loop-i.invariant in (
      omega (arith, c.loop-i-test.true),
      record {
        chip = c.chip-1.given ∙ inv.1.chip;
        ct = c.ct-1.given ∙ inv.1.ct;
        bt = c.bt-1.given ∙ inv.1.bt;
        fst = c.fst-1.given ∙ inv.1.fst;
        bst = c.bst-1.given ∙ inv.1.bst;
        wear = c.wear-1.given ∙ inv.1.wear;
        marks = c.marks-1.given ∙ inv.1.marks;
        stamps = c.stamps-1.given ∙ inv.1.stamps;
        answers = c.answers-1.given ∙ inv.1.answers;
      },
      λ k. next _ _ _ _ _ (board (goal.at.loop-i-preserved c).Start) _ k _ c.loop-i-test.true _ _ (inv.2 k) _ _ c.turn.ensures,
    )

pub shape_of-chip : goal.shape_of-chip
shape_of-chip c = c.loop-i.invariant.1.chip

pub shape_of-ct : goal.shape_of-ct
shape_of-ct c = c.loop-i.invariant.1.ct

pub shape_of-bt : goal.shape_of-bt
shape_of-bt c = c.loop-i.invariant.1.bt

pub shape_of-fst : goal.shape_of-fst
shape_of-fst c = c.loop-i.invariant.1.fst

pub shape_of-bst : goal.shape_of-bst
shape_of-bst c = c.loop-i.invariant.1.bst

pub shape_of-wear : goal.shape_of-wear
shape_of-wear c = c.loop-i.invariant.1.wear

pub shape_of-marks : goal.shape_of-marks
shape_of-marks c = c.loop-i.invariant.1.marks

pub shape_of-stamps : goal.shape_of-stamps
shape_of-stamps c = c.loop-i.invariant.1.stamps

pub shape_of-answers : goal.shape_of-answers
shape_of-answers c = c.loop-i.invariant.1.answers

pub returns : goal.returns
returns c = done _ _ _ _ _ (board (goal.at.returns c).Start) _ c.requires _ (omega (arith, c.loop-i-test.false)) _ _ (c.loop-i.invariant.2 c.requires)
