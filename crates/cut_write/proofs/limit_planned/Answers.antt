-- `cut_write::limit_planned`: the plan's operations are counted, and the budget is compared with them.
-- Assumes nothing.
use mathlib.Core.Path.{refl, ◌∙◌}
use native.Mathlib.Omega.{arith}
use Rattle.rules.specs.Tables.{Board, board_of}
use Rattle.rules.specs.Requests.{Request, request_of}
use Rattle.rules.proofs.Admitted.{write_checks}
use Rattle.write_work.proofs.Writes.{alpha_few}
use Rattle.cut_write.proofs.Limits.{count_asked, cut_asked, cut_is, left_is_lem, none_left, parts_left, whole}
use Rattle.cut_write.proofs.limit_planned.Goals as goal
use Rattle.cut_write.proofs.limit_planned.Goals.{Start}

abbrev board : Start → Board
board a = board_of a.args.chip.now a.args.ct.now a.args.bt.now a.args.fst.now a.args.bst.now a.args.wear.now a.args.marks.now a.args.stamps.now

abbrev request : Start → Request
request a = request_of a.args.lba a.args.count a.args.bytes.now

pub room_ops-room-requires : goal.room_ops-room-requires
room_ops-room-requires c =
    record {
      p_value = (write_checks _ (board (goal.at.room_ops-room-requires c).Start) (request (goal.at.room_ops-room-requires c).Start) c.requires.accepted).fine;
      count_asked = count_asked _ (board (goal.at.room_ops-room-requires c).Start) (request (goal.at.room_ops-room-requires c).Start) _ _ _ c.requires;
    }

pub overflow_add-ops : goal.overflow_add-ops
overflow_add-ops c = omega (arith, c.room_ops-room.ensures.upper_bound, alpha_few _ _ _ c.requires.accepted)

pub write_planned-answer-requires : goal.write_planned-answer-requires
write_planned-answer-requires c = c.requires

pub returns-then-budget-ops : goal.returns-then-budget-ops
returns-then-budget-ops c =
    record {
      stamps_value = whole _ (board (goal.at.returns-then-budget-ops c).Start) (request (goal.at.returns-then-budget-ops c).Start) _ _ _ c.requires _ c.room_ops-room.ensures.value _ _ refl c.if-budget-ops.true _ c.write_planned-answer.ensures;
      left_value = parts_left _ (board (goal.at.returns-then-budget-ops c).Start) (request (goal.at.returns-then-budget-ops c).Start) _ _ _ c.requires _ _ (left_is_lem _ (board (goal.at.returns-then-budget-ops c).Start) (request (goal.at.returns-then-budget-ops c).Start) _ _ _ c.requires _ c.room_ops-room.ensures.value _ _ refl);
    }

pub cut-requires : goal.cut-requires
cut-requires c = cut_asked _ (board (goal.at.cut-requires c).Start) (request (goal.at.cut-requires c).Start) _ _ _ c.requires _ c.room_ops-room.ensures.value _ (omega (arith, c.if-budget-ops.false))

pub returns : goal.returns
returns c =
    record {
      stamps_value = cut_is _ (board (goal.at.returns c).Start) (request (goal.at.returns c).Start) _ _ _ c.requires _ c.room_ops-room.ensures.value _ _ refl (omega (arith, c.if-budget-ops.false)) _ c.cut.ensures.answer_value _ c.cut.ensures.stamps_value;
      left_value = parts_left _ (board (goal.at.returns c).Start) (request (goal.at.returns c).Start) _ _ _ c.requires _ _ (c.cut.ensures.left_value ∙ none_left _ (board (goal.at.returns c).Start) (request (goal.at.returns c).Start) _ _ _ c.requires _ c.room_ops-room.ensures.value _ _ refl (omega (arith, c.if-budget-ops.false)));
    }
