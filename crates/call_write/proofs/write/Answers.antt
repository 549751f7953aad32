-- `call_write::write`: refused by a row, or the work of an orderly write.
-- Assumes nothing.
use mathlib.Core.Path.{refl}
use Rattle.rules.specs.Tables.{Board, board_of}
use Rattle.rules.specs.Requests.{Request, lent, lent_answers, write, request_of}
use Rattle.outcomes.proofs.Ends.{refused_by}
use Rattle.reply_rows.proofs.Rows.{early_reply}
use Rattle.call_write.proofs.write.Goals as goal
use Rattle.call_write.proofs.write.Goals.{Start}

abbrev board : Start → Board
board a = board_of a.args.chip.now a.args.ct.now a.args.bt.now a.args.fst.now a.args.bst.now a.args.wear.now a.args.marks.now a.args.stamps.now

abbrev request : Start → Request
request a = request_of a.args.lba a.args.count a.args.bytes.now

pub returns-in-Err : goal.returns-in-Err
unfolding lent lent_answers
returns-in-Err c =
    let b = board (goal.at.returns-in-Err c).Start in
    let q = request (goal.at.returns-in-Err c).Start in
    refused_by _ b (write q) _ (early_reply _ b q _ (c.in-Err.ensures q refl refl refl)) _ c.idle.ensures

pub write_orderly-requires : goal.write_orderly-requires
write_orderly-requires c = c.in_default.ensures (request (goal.at.write_orderly-requires c).Start) refl refl refl

pub shape_of-chip : goal.shape_of-chip
shape_of-chip c = c.chip-1.given

pub shape_of-ct : goal.shape_of-ct
shape_of-ct c = c.ct-1.given

pub shape_of-bt : goal.shape_of-bt
shape_of-bt c = c.bt-1.given

pub shape_of-fst : goal.shape_of-fst
shape_of-fst c = c.fst-1.given

pub shape_of-bst : goal.shape_of-bst
shape_of-bst c = c.bst-1.given

pub shape_of-wear : goal.shape_of-wear
shape_of-wear c = c.wear-1.given

pub shape_of-marks : goal.shape_of-marks
shape_of-marks c = c.marks-1.given

pub returns : goal.returns
returns c = c.write_orderly.ensures
