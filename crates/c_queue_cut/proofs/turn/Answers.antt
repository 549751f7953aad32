-- `c_queue_cut::turn`: nothing is left and nothing is done, or one item; it is answered if something is left after it.
-- Assumes nothing.
use native.Mathlib.Omega.{arith}
use Rattle.rules.specs.Tables.{Board, board_of}
use Rattle.c_queue_cut.proofs.Taking.{few_limited, turn_last, turn_more, turn_none}
use Rattle.c_queue_cut.proofs.turn.Goals as goal
use Rattle.c_queue_cut.proofs.turn.Goals.{Start}

abbrev board : Start → Board
board a = board_of a.args.chip.now a.args.ct.now a.args.bt.now a.args.fst.now a.args.bst.now a.args.wear.now a.args.marks.now a.args.stamps.now

pub returns-then-left-eq0 : goal.returns-then-left-eq0
returns-then-left-eq0 c = turn_none _ _ (board (goal.at.returns-then-left-eq0 c).Start) _ _ _ _ _ c.if-left-eq0.true

pub overflow_mul-i : goal.overflow_mul-i
overflow_mul-i c = omega (arith, c.requires.turn_asked.asked)

pub offset_bounds-requests-i : goal.offset_bounds-requests-i
offset_bounds-requests-i c = omega (arith, c.requires.turn_asked.asked)

pub overflow_mul-i-2 : goal.overflow_mul-i-2
overflow_mul-i-2 c = omega (arith, c.requires.turn_asked.asked)

pub overflow_add-i : goal.overflow_add-i
overflow_add-i c = omega (arith, c.requires.turn_asked.asked)

pub offset_bounds-requests-i-2 : goal.offset_bounds-requests-i-2
offset_bounds-requests-i-2 c = omega (arith, c.requires.turn_asked.asked)

pub overflow_mul-i-3 : goal.overflow_mul-i-3
overflow_mul-i-3 c = omega (arith, c.requires.turn_asked.asked)

pub overflow_add-i-2 : goal.overflow_add-i-2
overflow_add-i-2 c = omega (arith, c.requires.turn_asked.asked)

pub offset_bounds-requests-i-3 : goal.offset_bounds-requests-i-3
offset_bounds-requests-i-3 c = omega (arith, c.requires.turn_asked.asked)

pub item_limited-l-requires : goal.item_limited-l-requires
item_limited-l-requires c = c.requires.ready c.if-left-eq0.false

pub put-requires : goal.put-requires
put-requires c =
    record {
      programs_bound = few_limited _ _ (board (goal.at.put-requires c).Start) _ _ _ _ _ _ c.item_limited-l.ensures;
      i_in_bounds = c.requires.turn_asked.place;
    }

pub returns-then-rest-ne0 : goal.returns-then-rest-ne0
returns-then-rest-ne0 c = turn_more _ _ (board (goal.at.returns-then-rest-ne0 c).Start) _ _ _ _ _ c.if-left-eq0.false _ _ _ c.item_limited-l.ensures c.if-rest-ne0.true _ c.put.ensures

pub returns-else-rest-ne0 : goal.returns-else-rest-ne0
returns-else-rest-ne0 c = turn_last _ _ (board (goal.at.returns-else-rest-ne0 c).Start) _ _ _ _ _ c.if-left-eq0.false _ _ _ c.item_limited-l.ensures c.if-rest-ne0.false
