-- `call_format::format_all`: every block formatted, every entry cleared, every mark gone and every last stamp 0.
-- Assumes nothing.
use Rattle.rules.specs.Tables.{Board, board_of}
use Rattle.call_format.proofs.Call.{asked, few, format_done}
use Rattle.call_format.proofs.format_all.Goals as goal
use Rattle.call_format.proofs.format_all.Goals.{Start}

abbrev board : Start → Board
board a = board_of a.args.chip.now a.args.ct.now a.args.bt.now a.args.fst.now a.args.bst.now a.args.wear.now a.args.marks.now a.args.stamps.now

pub format_blocks-k-requires : goal.format_blocks-k-requires
format_blocks-k-requires c = asked _ (board (goal.at.format_blocks-k-requires c).Start) c.requires

pub overflow_cast-result : goal.overflow_cast-result
overflow_cast-result c = record { fits = few _ (board (goal.at.overflow_cast-result c).Start) c.requires _ c.format_blocks-k.ensures.few }

pub returns : goal.returns
returns c =
    format_done _ (board (goal.at.returns c).Start) c.requires _ _ _ _ _ _ _ _ _ c.clear.ensures c.clear-2.ensures c.clear-3.ensures c.clear_all.ensures
    c.clear_stamps.ensures c.format_blocks-k.ensures
