-- `cnftl::cnftl_why`: by the length of the list; then the answer of `call_why::explain`, told.
-- Assumes nothing.
use Rattle.rules.specs.Tables.{Board, board_of}
use Rattle.cnftl.proofs.Lists.{listed, unlisted}
use Rattle.cnftl.proofs.cnftl_why.Goals as goal
use Rattle.cnftl.proofs.cnftl_why.Goals.{Start}

abbrev board : Start → Board
board a = board_of a.args.chip.now a.args.ct.now a.args.bt.now a.args.fst.now a.args.bst.now a.args.wear.now a.args.marks.now a.args.stamps.now

pub returns-then-parameters_allowed : goal.returns-then-parameters_allowed
returns-then-parameters_allowed c = unlisted _ (board (goal.at.returns-then-parameters_allowed c).Start) _ _ c.if-list-ne-WHY_NUMBERS.true _ (rw c.params-p.ensures at c.parameters_allowed.ensures) _ (rw c.if-parameters_allowed.true)

pub returns-then-list-ne-WHY_NUMBERS : goal.returns-then-list-ne-WHY_NUMBERS
returns-then-list-ne-WHY_NUMBERS c = unlisted _ (board (goal.at.returns-then-list-ne-WHY_NUMBERS c).Start) _ _ c.if-list-ne-WHY_NUMBERS.true _ (rw c.params-p.ensures at c.parameters_allowed.ensures) _ (rw c.if-parameters_allowed.false)

pub tell-requires : goal.tell-requires
tell-requires c =
    record {
      small = c.explain.ensures.small;
      list_len = c.if-list-ne-WHY_NUMBERS.false;
    }

pub returns : goal.returns
returns c =
    listed _ (board (goal.at.returns c).Start) _ _ c.if-list-ne-WHY_NUMBERS.false _ (rw c.params-p.ensures at c.explain.ensures.result_value) _ c.tell.ensures.value _
    c.tell.ensures.list_after
