-- `call_start::start`: refused by a row, or the board that a start makes.
-- Assumes nothing.
use Rattle.rules.specs.Tables.{Board, board_of}
use Rattle.rules.specs.Requests.{lent, lent_answers, start}
use Rattle.outcomes.proofs.Ends.{refused_by}
use Rattle.call_start.proofs.start.Goals as goal
use Rattle.call_start.proofs.start.Goals.{Start}

abbrev board : Start → Board
board a = board_of a.args.chip.now a.args.ct.now a.args.bt.now a.args.fst.now a.args.bst.now a.args.wear.now a.args.marks.now a.args.stamps.now

pub returns-in-Err : goal.returns-in-Err
unfolding lent lent_answers
returns-in-Err c = refused_by _ (board (goal.at.returns-in-Err c).Start) start _ c.in-Err.ensures _ c.idle.ensures
