-- `replies::release_reply`: each return is the reply of the first row that applies.
-- Assumes nothing.
use mathlib.Core.Path.{ap, refl}
use native.Mathlib.Omega.{arith}
use Rattle.rules.proofs.TableFacts.{lengths_in as tables_in}
use Rattle.rules.specs.Replies.{number_of, reply_of, rows_of}
use Rattle.check_rules.proofs.Agree.{lengths_in, marks_fit}
use Rattle.reply_rows.proofs.Rows.{after_lent, lent_passes, passed_on, row_here, row_skipped}
use Rattle.replies.proofs.release_reply.Goals as goal

pub returns-in_err-board_reply : goal.returns-in_err-board_reply
unfolding reply_of rows_of
returns-in_err-board_reply c = passed_on _ _ _ _ c.from_residual.ensures.1 c.in_err-board_reply.ensures

pub returns-then-bad_cluster : goal.returns-then-bad_cluster
unfolding reply_of rows_of
returns-then-bad_cluster c =
    let h = lent_passes _ _ c.in_ok-board_reply.ensures in
    rw (after_lent _ _ h, row_here _ _ _ _ c.bad_cluster.ensures c.if-bad_cluster.true) (refl, λ x. omega (arith, ap number_of x))

pub state_reply-requires : goal.state_reply-requires
state_reply-requires c =
    let h = lent_passes _ _ c.in_ok-board_reply.ensures in
    record {
      lengths = lengths_in _ _ h.fine h.fits;
      marks_len = marks_fit _ _ h.fits;
      stamps_len = (tables_in _ _ h.fits).stamps_length;
    }

pub returns : goal.returns
unfolding reply_of rows_of
returns c =
    let h = lent_passes _ _ c.in_ok-board_reply.ensures in
    rw (after_lent _ _ h, row_skipped _ _ _ _ c.bad_cluster.ensures c.if-bad_cluster.false) (c.state_reply.ensures _)
