-- `call_write::write_cut`: refused by a row, or the work of an orderly write with a budget.
-- Assumes nothing.
use mathlib.Core.Path.{refl}
use Rattle.rules.specs.Tables.{Board, board_of}
use Rattle.rules.specs.Requests.{Request, lent, lent_answers, write, request_of}
use Rattle.outcomes.proofs.Ends.{refused_with}
use Rattle.reply_rows.proofs.Rows.{early_reply}
use Rattle.call_write.proofs.write_cut.Goals as goal
use Rattle.call_write.proofs.write_cut.Goals.{Start}

abbrev board : Start → Board
board a = board_of a.args.chip.now a.args.ct.now a.args.bt.now a.args.fst.now a.args.bst.now a.args.wear.now a.args.marks.now a.args.stamps.now

abbrev request : Start → Request
request a = request_of a.args.lba a.args.count a.args.bytes.now

pub returns-in-Err : goal.returns-in-Err
unfolding lent lent_answers
returns-in-Err c =
    let b = board (goal.at.returns-in-Err c).Start in
    let q = request (goal.at.returns-in-Err c).Start in
    refused_with _ b (write q) _ (early_reply _ b q _ (c.in-Err.ensures q refl refl refl)) _ _ c.idle.ensures

pub write_limited-l-requires : goal.write_limited-l-requires
write_limited-l-requires c = c.in_default.ensures (request (goal.at.write_limited-l-requires c).Start) refl refl refl

pub returns : goal.returns
returns c = c.write_limited-l.ensures.stamps_value
