-- `replies::state_reply`: the row of the state, by its test.
-- Assumes nothing.
use mathlib.Core.Path.{ap, refl}
use native.Mathlib.Omega.{arith}
use Rattle.rules.specs.Replies.{first_row, not_orderly, number_of, order_row}
use Rattle.replies.proofs.state_reply.Goals as goal

pub returns-then-in_order : goal.returns-then-in_order
unfolding order_row first_row not_orderly
returns-then-in_order c = λ wear. rw (← c.in_order.ensures wear, c.if-in_order.true)

pub returns : goal.returns
unfolding order_row first_row not_orderly
returns c = λ wear. rw (← c.in_order.ensures wear, c.if-in_order.false) (refl, λ x. omega (arith, ap number_of x))
