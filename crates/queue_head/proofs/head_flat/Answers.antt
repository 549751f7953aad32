-- `queue_head::head_flat`: refused with 1 or 2, or the head of the queue where the numbers are three to a request.
-- Assumes nothing.
use mathlib.Core.Path.{ap, refl}
use native.Mathlib.Omega.{arith}
use borrow.Author.Tests.{eq-eqb, ne_eqb}
use Rattle.rules.specs.Replies.{bad_parameter, number_of}
use Rattle.queue_head.specs.Heads.{flat_reply}
use Rattle.queue_head.proofs.head_flat.Goals as goal

pub returns-then-not-parameters_allowed : goal.returns-then-not-parameters_allowed
unfolding flat_reply bad_parameter
returns-then-not-parameters_allowed c = rw (← c.parameters_allowed.ensures, c.if-not-parameters_allowed.true) (refl, λ x. omega (arith, ap number_of x))

pub returns-then-len-ne0 : goal.returns-then-len-ne0
unfolding flat_reply bad_parameter
returns-then-len-ne0 c =
    rw (← c.parameters_allowed.ensures, c.if-not-parameters_allowed.false, ne_eqb _ _ c.if-len-ne0.true) (refl, λ x. omega (arith, ap number_of x))

pub returns : goal.returns
unfolding flat_reply bad_parameter
returns c = rw (← c.parameters_allowed.ensures, c.if-not-parameters_allowed.false, eq-eqb _ _ c.if-len-ne0.false) c.head_of.ensures
