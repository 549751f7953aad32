-- `replies::write_reply`: a read's rows, then that of the stamp.
-- Assumes nothing.
use mathlib.Core.Path.{refl}
use Prim.Native.Nat.{ℕ}
use lib.ListN.{length-replicate, replicate}
use Rattle.rules.specs.Replies.{access_rows, early_rows, lent_rows, order_row, reply_of, rows_of, stamp_row}
use Rattle.rules.specs.Requests.{Request, read, request_of, request_region}
use Rattle.rules.specs.Tables.{Board, board_of}
use Rattle.rules.proofs.Admitted.{read_checks}
use Rattle.rules.proofs.TableFacts.{lengths_in}
use Rattle.reply_rows.proofs.Rows.{passed_on, write_row}
use Rattle.replies.proofs.write_reply.Goals as goal
use Rattle.replies.proofs.write_reply.Goals.{Start}

abbrev board : Start → Board
board a = board_of a.args.board.chip.now a.args.board.ct.now a.args.board.bt.now a.args.board.fst.now a.args.board.bst.now a.args.board.wear.now a.args.board.marks.now a.args.board.stamps.now

pub returns-in_err-read_reply : goal.returns-in_err-read_reply
unfolding reply_of rows_of early_rows lent_rows access_rows order_row
returns-in_err-read_reply c =
    let b = board (goal.at.returns-in_err-read_reply c).Start in
    λ q l k n. passed_on (rows_of c.args.p b (read q)) (stamp_row c.args.p b (request_region c.args.p q)) _ _ c.from_residual.ensures.1 (c.in_err-read_reply.ensures q l k n)

pub stamp_reply-requires : goal.stamp_reply-requires
stamp_reply-requires c =
    let q : Request = request_of c.args.lba c.args.count (replicate c.args.len 0) in
    let checks = read_checks _ (board (goal.at.stamp_reply-requires c).Start) q (c.in_ok-read_reply.ensures q refl refl (length-replicate {A = ℕ} c.args.len 0)) in
    record {
      p_value = checks.fine;
      lba_value = checks.address;
      stamps_len = (lengths_in _ (board (goal.at.stamp_reply-requires c).Start) checks.lengths).stamps_length;
    }

pub returns : goal.returns
returns c =
    let b = board (goal.at.returns c).Start in
    λ q l k n. rw (← write_row _ b q (read_checks _ b q (c.in_ok-read_reply.ensures q l k n))) (c.stamp_reply.ensures b q refl l)
