-- `c_queue_cut::queue_cut`: the head, as many turns as it says, and the tables lost where an accepted queue has nothing left of its budget.
-- Assumes nothing.
use mathlib.Core.Path.{refl, ◌∙◌}
use Rattle.rules.specs.Tables.{Board, board_of}
use Rattle.c_queue.proofs.Taking.{turns_asked}
use Rattle.c_queue_cut.proofs.Ends.{kept_done, lost_done, refused_done}
use Rattle.c_queue_cut.proofs.queue_cut.Goals as goal
use Rattle.c_queue_cut.proofs.queue_cut.Goals.{Start}

abbrev board : Start → Board
board a = board_of a.args.chip.now a.args.ct.now a.args.bt.now a.args.fst.now a.args.bst.now a.args.wear.now a.args.marks.now a.args.stamps.now

pub turns-left-requires : goal.turns-left-requires
turns-left-requires c = turns_asked _ (board (goal.at.turns-left-requires c).Start) _ c.args.bytes.now _ _ c.in-Ok.ensures.1

pub shape_of-chip-then-left-eq0 : goal.shape_of-chip-then-left-eq0
shape_of-chip-then-left-eq0 c = c.chip-1.given

pub shape_of-ct-then-left-eq0 : goal.shape_of-ct-then-left-eq0
shape_of-ct-then-left-eq0 c = c.ct-then-left-eq0-1.given ∙ c.ct-1.given

pub shape_of-bt-then-left-eq0 : goal.shape_of-bt-then-left-eq0
shape_of-bt-then-left-eq0 c = c.bt-then-left-eq0-1.given ∙ c.bt-1.given

pub shape_of-fst-then-left-eq0 : goal.shape_of-fst-then-left-eq0
shape_of-fst-then-left-eq0 c = c.fst-then-left-eq0-1.given ∙ c.fst-1.given

pub shape_of-bst-then-left-eq0 : goal.shape_of-bst-then-left-eq0
shape_of-bst-then-left-eq0 c = c.bst-then-left-eq0-1.given ∙ c.bst-1.given

pub shape_of-marks-then-left-eq0 : goal.shape_of-marks-then-left-eq0
shape_of-marks-then-left-eq0 c = c.marks-then-left-eq0-1.given ∙ c.marks-1.given

pub shape_of-stamps-then-left-eq0 : goal.shape_of-stamps-then-left-eq0
shape_of-stamps-then-left-eq0 c = c.stamps-then-left-eq0-1.given ∙ c.stamps-1.given

pub returns-in-Err : goal.returns-in-Err
returns-in-Err c = refused_done _ (board (goal.at.returns-in-Err c).Start) _ _ _ _ _ c.in-Err.ensures _ c.from.ensures

pub returns-then-left-eq0 : goal.returns-then-left-eq0
returns-then-left-eq0 c =
    lost_done _ (board (goal.at.returns-then-left-eq0 c).Start) _ _ _ _ c.in-Ok.ensures.0 _ c.in-Ok.ensures.1 _ _ _ c.turns-left.ensures _ refl c.if-left-eq0.true
    (record {
      chip = c.chip-1.given;
      ct = c.ct-1.given;
      bt = c.bt-1.given;
      fst = c.fst-1.given;
      bst = c.bst-1.given;
      wear = c.wear-1.given;
      marks = c.marks-1.given;
      stamps = c.stamps-1.given;
      answers = c.answers-1.given;
    })
    _ _ _ _ _ _ c.lose.ensures

pub returns-else-left-eq0 : goal.returns-else-left-eq0
returns-else-left-eq0 c = kept_done _ (board (goal.at.returns-else-left-eq0 c).Start) _ _ _ _ c.in-Ok.ensures.0 _ c.in-Ok.ensures.1 _ _ _ c.turns-left.ensures _ refl c.if-left-eq0.false
