-- `call_format::format`: refused by a row, or the work of a format.
-- Assumes nothing.
use Rattle.rules.specs.Tables.{Board, board_of}
use Rattle.rules.specs.Requests.{format, lent, lent_answers}
use Rattle.outcomes.proofs.Ends.{refused_by}
use Rattle.call_format.proofs.format.Goals as goal
use Rattle.call_format.proofs.format.Goals.{Start}

abbrev board : Start → Board
board a = board_of a.args.chip.now a.args.ct.now a.args.bt.now a.args.fst.now a.args.bst.now a.args.wear.now a.args.marks.now a.args.stamps.now

pub returns-in-Err : goal.returns-in-Err
unfolding lent lent_answers
returns-in-Err c = refused_by _ (board (goal.at.returns-in-Err c).Start) format _ c.in-Err.ensures _ c.idle.ensures
