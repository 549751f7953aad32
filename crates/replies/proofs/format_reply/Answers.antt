-- `replies::format_reply`: each return is the reply of the first row that applies.
-- Assumes nothing.
use mathlib.Core.Path.{ap, refl}
use native.Mathlib.Omega.{arith}
use borrow.Author.Tests.{le-ltb, lt-ltb}
use Rattle.rules.specs.Replies.{first_row, number_of, reply_of, rows_of}
use Rattle.rules.specs.Tables.{Board, board_of}
use Rattle.rules.proofs.Sizes.{sizes}
use Rattle.rules.proofs.TableFacts.{lengths_in}
use Rattle.reply_rows.proofs.Rows.{after_lent, few_is, lent_passes, passed_on, row_here, row_skipped}
use Rattle.replies.proofs.format_reply.Goals as goal
use Rattle.replies.proofs.format_reply.Goals.{Start}

abbrev board : Start → Board
board a = board_of a.args.board.chip.now a.args.board.ct.now a.args.board.bt.now a.args.board.fst.now a.args.board.bst.now a.args.board.wear.now a.args.board.marks.now a.args.board.stamps.now

pub returns-in_err-board_reply : goal.returns-in_err-board_reply
unfolding reply_of rows_of
returns-in_err-board_reply c = passed_on _ _ _ _ c.from_residual.ensures.1 c.in_err-board_reply.ensures

pub count_good-requires : goal.count_good-requires
count_good-requires c =
    let h = lent_passes _ _ c.in_ok-board_reply.ensures in
    let long = lengths_in _ _ h.fits in
    record {
      p_value = h.fine;
      chip_len = long.chip_length;
      wear_len = long.wear_length;
    }

pub overflow_mul-p : goal.overflow_mul-p
overflow_mul-p c = omega (arith, (sizes _ (lent_passes _ _ c.in_ok-board_reply.ensures).fine).table_high)

pub overflow_add-p : goal.overflow_add-p
overflow_add-p c = omega (arith, (sizes _ (lent_passes _ _ c.in_ok-board_reply.ensures).fine).table_high)

pub returns-then-count_good-p : goal.returns-then-count_good-p
unfolding reply_of rows_of
returns-then-count_good-p c =
    let h = lent_passes _ _ c.in_ok-board_reply.ensures in
    rw (after_lent _ _ h, row_here _ _ _ _ (few_is _ (board (goal.at.returns-then-count_good-p c).Start) _ c.count_good.ensures) (lt-ltb _ _ c.if-count_good-p.true))
    (refl, λ x. omega (arith, ap number_of x))

pub returns : goal.returns
unfolding reply_of rows_of first_row
returns c =
    let h = lent_passes _ _ c.in_ok-board_reply.ensures in
    rw (after_lent _ _ h, row_skipped _ _ _ _ (few_is _ (board (goal.at.returns c).Start) _ c.count_good.ensures) (le-ltb _ _ c.if-count_good-p.false))
