-- `call_start::rebuild`: the board that a start makes.
-- Assumes nothing.
use Rattle.rules.specs.Tables.{Board, board_of}
use Rattle.starts.proofs.Accepted.{start_admitted}
use Rattle.call_start.proofs.Call.{few, start_done}
use Rattle.call_start.proofs.rebuild.Goals as goal
use Rattle.call_start.proofs.rebuild.Goals.{Start}

abbrev board : Start → Board
board a = board_of a.args.chip.now a.args.ct.now a.args.bt.now a.args.fst.now a.args.bst.now a.args.wear.now a.args.marks.now a.args.stamps.now

pub start_all-k-requires : goal.start_all-k-requires
start_all-k-requires c = start_admitted _ (board (goal.at.start_all-k-requires c).Start) c.requires

pub overflow_cast-result : goal.overflow_cast-result
overflow_cast-result c = record { fits = few _ (board (goal.at.overflow_cast-result c).Start) c.requires _ c.start_all-k.ensures.upper_bound }

pub returns : goal.returns
returns c = start_done _ (board (goal.at.returns c).Start) c.requires _ _ c.start_all-k.ensures.stamps_after c.start_all-k.ensures.value
