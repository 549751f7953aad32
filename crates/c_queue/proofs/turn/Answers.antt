-- `c_queue::turn`: one item, its answer packed into its place.
-- Assumes nothing.
use native.Mathlib.Omega.{arith}
use Rattle.rules.specs.Tables.{Board, board_of}
use Rattle.c_queue.proofs.Taking.{few_item, turn_done}
use Rattle.c_queue.proofs.turn.Goals as goal
use Rattle.c_queue.proofs.turn.Goals.{Start}

abbrev board : Start → Board
board a = board_of a.args.chip.now a.args.ct.now a.args.bt.now a.args.fst.now a.args.bst.now a.args.wear.now a.args.marks.now a.args.stamps.now

pub overflow_mul-i-2 : goal.overflow_mul-i-2
overflow_mul-i-2 c = omega (arith, c.requires.turn_asked.asked)

pub overflow_add-i : goal.overflow_add-i
overflow_add-i c = omega (arith, c.requires.turn_asked.asked)

pub offset_bounds-requests-i-2 : goal.offset_bounds-requests-i-2
offset_bounds-requests-i-2 c = omega (arith, c.requires.turn_asked.asked)

pub overflow_mul-i-3 : goal.overflow_mul-i-3
overflow_mul-i-3 c = omega (arith, c.requires.turn_asked.asked)

pub overflow_add-i-2 : goal.overflow_add-i-2
overflow_add-i-2 c = omega (arith, c.requires.turn_asked.asked)

pub offset_bounds-requests-i-3 : goal.offset_bounds-requests-i-3
offset_bounds-requests-i-3 c = omega (arith, c.requires.turn_asked.asked)

pub put-requires : goal.put-requires
put-requires c =
    record {
      programs_bound = few_item _ _ (board (goal.at.put-requires c).Start) _ _ _ _ c.item-a.ensures;
      i_in_bounds = c.requires.turn_asked.place;
    }

pub returns : goal.returns
returns c = turn_done _ _ (board (goal.at.returns c).Start) _ _ _ _ _ _ c.item-a.ensures _ c.put.ensures
