-- `c_queue::queue`: refused by the head, or as many turns as it says.
-- Assumes nothing.
use mathlib.Core.Path.{refl}
use Rattle.rules.specs.Tables.{Board, board_of}
use Rattle.c_queue.proofs.Taking.{all_done, refused_done, turns_asked}
use Rattle.c_queue.proofs.queue.Goals as goal
use Rattle.c_queue.proofs.queue.Goals.{Start}

abbrev board : Start → Board
board a = board_of a.args.chip.now a.args.ct.now a.args.bt.now a.args.fst.now a.args.bst.now a.args.wear.now a.args.marks.now a.args.stamps.now

pub returns-in-Err : goal.returns-in-Err
returns-in-Err c = refused_done _ (board (goal.at.returns-in-Err c).Start) _ _ _ _ c.in-Err.ensures _ c.from.ensures

pub turns-requires : goal.turns-requires
turns-requires c = turns_asked _ (board (goal.at.turns-requires c).Start) _ c.args.bytes.now _ _ c.in-Ok.ensures.1

pub returns : goal.returns
returns c = all_done _ (board (goal.at.returns c).Start) _ _ _ c.in-Ok.ensures.0 _ c.in-Ok.ensures.1 _ _ c.turns.ensures _ refl
