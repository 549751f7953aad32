-- `replies::why_reply`: each return is the reply of the first row that applies.
-- Assumes nothing.
use mathlib.Core.Path.{ap, refl}
use native.Mathlib.Omega.{arith}
use Rattle.rules.proofs.TableFacts.{lengths_in as tables_in}
use Rattle.rules.specs.Replies.{number_of, why_reply, why_rows}
use Rattle.check_rules.proofs.Agree.{lengths_in, marks_fit}
use Rattle.reply_rows.proofs.Rows.{after_lent, lent_passes, passed_on, row_here, row_skipped}
use Rattle.replies.proofs.why_reply.Goals as goal

pub returns-in_err-board_reply : goal.returns-in_err-board_reply
unfolding why_reply why_rows
returns-in_err-board_reply c = passed_on _ _ _ _ c.from_residual.ensures.1 c.in_err-board_reply.ensures

pub bad_address-requires : goal.bad_address-requires
bad_address-requires c = (lent_passes _ _ c.in_ok-board_reply.ensures).fine

pub returns-then-bad_address : goal.returns-then-bad_address
unfolding why_reply why_rows
returns-then-bad_address c =
    let h = lent_passes _ _ c.in_ok-board_reply.ensures in
    rw (after_lent _ _ h, row_here _ _ _ _ c.bad_address.ensures c.if-bad_address.true) (refl, λ x. omega (arith, ap number_of x))

pub state_reply-requires : goal.state_reply-requires
state_reply-requires c =
    let h = lent_passes _ _ c.in_ok-board_reply.ensures in
    record {
      lengths = lengths_in _ _ h.fine h.fits;
      marks_len = marks_fit _ _ h.fits;
      stamps_len = (tables_in _ _ h.fits).stamps_length;
    }

pub returns : goal.returns
unfolding why_reply why_rows
returns c =
    let h = lent_passes _ _ c.in_ok-board_reply.ensures in
    rw (after_lent _ _ h, row_skipped _ _ _ _ c.bad_address.ensures c.if-bad_address.false) (c.state_reply.ensures _)
