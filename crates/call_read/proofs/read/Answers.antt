-- `call_read::read`: refused by a row, or the sectors read.
-- Assumes nothing.
use mathlib.Core.Path.{refl}
use Rattle.rules.specs.Tables.{Board, board_of}
use Rattle.rules.specs.Requests.{Request, lent, lent_answers, read, request_of}
use Rattle.outcomes.proofs.Ends.{refused_by}
use Rattle.call_read.proofs.Call.{asked, read_done}
use Rattle.call_read.proofs.read.Goals as goal
use Rattle.call_read.proofs.read.Goals.{Start}

abbrev board : Start → Board
board a = board_of a.args.board.chip.now a.args.board.ct.now a.args.board.bt.now a.args.board.fst.now a.args.board.bst.now a.args.board.wear.now a.args.board.marks.now a.args.board.stamps.now

abbrev request : Start → Request
request a = request_of a.args.lba a.args.count a.args.bytes.now

pub returns-in-Err : goal.returns-in-Err
unfolding lent lent_answers
returns-in-Err c =
    let q = request (goal.at.returns-in-Err c).Start in
    refused_by _ (board (goal.at.returns-in-Err c).Start) (read q) _ (c.in-Err.ensures q refl refl refl) _ c.idle.ensures

pub read_sectors-looks-requires : goal.read_sectors-looks-requires
read_sectors-looks-requires c =
    let q = request (goal.at.read_sectors-looks-requires c).Start in
    asked _ (board (goal.at.read_sectors-looks-requires c).Start) q (c.in_default.ensures q refl refl refl)

pub returns : goal.returns
returns c =
    let q = request (goal.at.returns c).Start in
    read_done _ (board (goal.at.returns c).Start) q (c.in_default.ensures q refl refl refl) _
    (c.read_sectors-looks.ensures.bytes_after _ _ _ _ _) _ c.read_sectors-looks.ensures.looked _ c.looked.ensures
