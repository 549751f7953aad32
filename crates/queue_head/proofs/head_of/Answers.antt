-- `queue_head::head_of`: refused by the first rows or by the answer list, or let through with one look at the state.
-- Assumes nothing.
use Rattle.rules.specs.Tables.{Board, board_of}
use Rattle.rules.proofs.TableFacts.{lengths_in as tables_in}
use Rattle.check_rules.proofs.Agree.{lengths_in, marks_fit}
use Rattle.reply_rows.proofs.Rows.{lent_passes}
use Rattle.queue_head.proofs.Heads.{head_done, head_refused, too_few}
use Rattle.queue_head.proofs.head_of.Goals as goal
use Rattle.queue_head.proofs.head_of.Goals.{Start}

abbrev board : Start → Board
board a = board_of a.args.board.chip.now a.args.board.ct.now a.args.board.bt.now a.args.board.fst.now a.args.board.bst.now a.args.board.wear.now a.args.board.marks.now a.args.board.stamps.now

pub returns-in_err-board_reply : goal.returns-in_err-board_reply
returns-in_err-board_reply c = head_refused _ (board (goal.at.returns-in_err-board_reply c).Start) _ _ _ _ c.from_residual.ensures.1 c.in_err-board_reply.ensures

pub returns-then-answers-items : goal.returns-then-answers-items
returns-then-answers-items c = too_few _ (board (goal.at.returns-then-answers-items c).Start) _ _ c.in_ok-board_reply.ensures c.if-answers-items.true

pub state_reply-state-requires : goal.state_reply-state-requires
state_reply-state-requires c =
    let h = lent_passes _ _ c.in_ok-board_reply.ensures in
    record {
      lengths = lengths_in _ _ h.fine h.fits;
      marks_len = marks_fit _ _ h.fits;
      stamps_len = (tables_in _ _ h.fits).stamps_length;
    }

pub returns : goal.returns
returns c =
    let b = board (goal.at.returns c).Start in
    rw c.is_ok.ensures.value (head_done _ b _ _ c.in_ok-board_reply.ensures c.if-answers-items.false c.state_reply-state.result (c.state_reply-state.ensures _))
