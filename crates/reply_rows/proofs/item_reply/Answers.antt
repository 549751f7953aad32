-- `reply_rows::item_reply`: the rows of the request, then the state's and the stamp's, where the first two do not apply.
-- Assumes nothing.
use Rattle.rules.specs.Replies.{early_rows}
use Rattle.reply_rows.proofs.Rows.{after_access, after_lent, after_order, order_here, passed_on}
use Rattle.reply_rows.proofs.item_reply.Goals as goal

pub returns-in_err-request_reply : goal.returns-in_err-request_reply
unfolding early_rows
returns-in_err-request_reply c =
    λ b q fit o st l k d. rw (after_lent _ b (record { fine = c.requires.p_value; fits = fit }))
    (passed_on _ _ _ _ c.from_residual.ensures.1 (c.in_err-request_reply.ensures.value q l k d))

pub returns-then-not-ordered : goal.returns-then-not-ordered
unfolding early_rows
returns-then-not-ordered c =
    λ b q fit o st l k d. rw (after_lent _ b (record { fine = c.requires.p_value; fits = fit }), after_access _ q (c.in_ok-request_reply.ensures.value q l k d))
    (order_here _ b _ _ o c.if-not-ordered.true)

pub returns : goal.returns
unfolding early_rows
returns c =
    λ b q fit o st l k d. rw (
      after_lent _ b (record { fine = c.requires.p_value; fits = fit }),
      after_access _ q (c.in_ok-request_reply.ensures.value q l k d),
      after_order _ b _ _ o c.if-not-ordered.false,
    ) (c.stamp_reply.ensures b q st l)
