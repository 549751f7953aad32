-- `call_start::start_reply`: a refusal by parameters or lengths, or the chip's row.
-- Assumes nothing.
use Rattle.rules.specs.Tables.{Board, board_of}
use Rattle.rules.specs.Replies.{reply_of, rows_of}
use Rattle.reply_rows.proofs.Rows.{lent_passes, passed_on}
use Rattle.call_start.proofs.Call.{chip_fits, is_started, not_started}
use Rattle.call_start.proofs.start_reply.Goals as goal
use Rattle.call_start.proofs.start_reply.Goals.{Start}

abbrev board : Start → Board
board a = board_of a.args.board.chip.now a.args.board.ct.now a.args.board.bt.now a.args.board.fst.now a.args.board.bst.now a.args.board.wear.now a.args.board.marks.now a.args.board.stamps.now

pub returns-in_err-board_reply : goal.returns-in_err-board_reply
unfolding reply_of rows_of
returns-in_err-board_reply c = passed_on _ _ _ _ c.from_residual.ensures.1 c.in_err-board_reply.ensures

pub can_start-requires : goal.can_start-requires
can_start-requires c =
    let h = lent_passes _ _ c.in_ok-board_reply.ensures in
    record {
      p_value = h.fine;
      chip_len = chip_fits _ _ h;
    }

pub returns-then-not-can_start : goal.returns-then-not-can_start
returns-then-not-can_start c =
    let b = board (goal.at.returns-then-not-can_start c).Start in
    not_started _ b (lent_passes _ b c.in_ok-board_reply.ensures) _ c.can_start.ensures c.if-not-can_start.true

pub returns : goal.returns
returns c =
    let b = board (goal.at.returns c).Start in
    is_started _ b (lent_passes _ b c.in_ok-board_reply.ensures) _ c.can_start.ensures c.if-not-can_start.false
