-- `queue_item::item`: refused by a row, or the work of an orderly write on the item's part of the data.
-- Assumes nothing.
use mathlib.Core.Path.{refl}
use native.Mathlib.Omega.{arith}
use Rattle.rules.specs.declared.Item.{Item}
use Rattle.reply_rows.proofs.Rows.{bytes_low}
use Rattle.rules.specs.Tables.{Board, board_of}
use Rattle.rules.specs.Requests.{item_of}
use Rattle.rules.proofs.TableFacts.{lengths_in}
use Rattle.queue_item.proofs.Parts.{asked_early, inside, item_done, item_refused}
use Rattle.queue_item.proofs.item.Goals as goal
use Rattle.queue_item.proofs.item.Goals.{Start}

abbrev board : Start → Board
board a = board_of a.args.chip.now a.args.ct.now a.args.bt.now a.args.fst.now a.args.bst.now a.args.wear.now a.args.marks.now a.args.stamps.now

abbrev asked : Start → Item
asked a = item_of a.args.lba a.args.count a.args.first

pub has_bytes-fits-requires : goal.has_bytes-fits-requires
has_bytes-fits-requires c = c.requires.fine

pub item_reply-requires : goal.item_reply-requires
item_reply-requires c =
    record {
      p_value = c.requires.fine;
      stamps_len = (lengths_in _ (board (goal.at.item_reply-requires c).Start) c.requires.lengths).stamps_length;
    }

pub returns-in-Err : goal.returns-in-Err
returns-in-Err c =
    item_refused _ _ (board (goal.at.returns-in-Err c).Start) c.requires _ (asked (goal.at.returns-in-Err c).Start) _
    (c.has_bytes-fits.ensures c.args.bytes.now c.args.lba refl) _ c.in-Err.ensures _ c.idle.ensures

pub overflow_mul-to : goal.overflow_mul-to
overflow_mul-to c = omega (arith, bytes_low _ c.requires.fine c.args.count (omega arith))

pub overflow_add-to : goal.overflow_add-to
overflow_add-to c = omega (arith, bytes_low _ c.requires.fine c.args.count (omega arith))

pub slice_bounds-write_orderly-end : goal.slice_bounds-write_orderly-end
slice_bounds-write_orderly-end c =
    omega (
      arith,
      inside _ _ (board (goal.at.slice_bounds-write_orderly-end c).Start) c.requires _ (asked (goal.at.slice_bounds-write_orderly-end c).Start) _
          (c.has_bytes-fits.ensures c.args.bytes.now c.args.lba refl) c.in_default.ensures,
    )

pub write_orderly-requires : goal.write_orderly-requires
write_orderly-requires c =
    asked_early _ _ (board (goal.at.write_orderly-requires c).Start) c.requires _ (asked (goal.at.write_orderly-requires c).Start) _
    (c.has_bytes-fits.ensures c.args.bytes.now c.args.lba refl) c.in_default.ensures

pub returns : goal.returns
returns c =
    item_done _ _ (board (goal.at.returns c).Start) c.requires _ (asked (goal.at.returns c).Start) _
    (c.has_bytes-fits.ensures c.args.bytes.now c.args.lba refl) c.in_default.ensures _ _ c.write_orderly.ensures
