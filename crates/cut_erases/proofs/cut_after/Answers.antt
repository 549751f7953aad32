-- `cut_erases::cut_after`: the erases, and then the tables.
-- Assumes nothing.
use lib.ListN.{take}
use Rattle.rules.specs.Tables.{Board, board_of}
use Rattle.rules.specs.Traces.{erase_where}
use Rattle.chip_lost.proofs.Board.{lost_board}
use Rattle.cut_erases.specs.Listed.{listed}
use Rattle.cut_erases.proofs.Board.{blocks_asked, table_lengths}
use Rattle.cut_erases.proofs.cut_after.Goals as goal
use Rattle.cut_erases.proofs.cut_after.Goals.{Start}

abbrev board : Start → Board
board a = board_of a.args.chip.now a.args.ct.now a.args.bt.now a.args.fst.now a.args.bst.now a.args.wear.now a.args.marks.now a.args.stamps.now

pub erase_first-requires : goal.erase_first-requires
erase_first-requires c = blocks_asked _ (board (goal.at.erase_first-requires c).Start) c.requires.stamps_value c.requires.p_value

pub returns : goal.returns
returns c =
    lost_board _ (board (goal.at.returns c).Start) (take c.args.k (erase_where c.args.p c.args.wear.now (listed c.args.bst.now))) _ _ _ _ _ _ _ _ _ _ _ _ _ _ (table_lengths _ (board (goal.at.returns c).Start) c.requires.stamps_value) c.lose.ensures c.erase_first.ensures.chip_after
    c.erase_first.ensures.wear_after
