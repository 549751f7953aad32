-- `replies::board_reply`: each return is the reply of the first row that applies.
-- Assumes nothing.
use mathlib.Core.Path.{ap, refl, sym, ◌∙◌}
use native.Mathlib.Omega.{arith}
use Rattle.rules.specs.Replies.{bad_parameter, first_row, lent_rows, number_of, wrong_length}
use Rattle.replies.proofs.board_reply.Goals as goal

pub returns-then-not-parameters_allowed : goal.returns-then-not-parameters_allowed
unfolding lent_rows first_row bad_parameter
returns-then-not-parameters_allowed c = rw (← c.parameters_allowed.ensures, c.if-not-parameters_allowed.true) (refl, λ x. omega (arith, ap number_of x))

pub lengths_fit-requires : goal.lengths_fit-requires
lengths_fit-requires c = sym c.parameters_allowed.ensures ∙ c.if-not-parameters_allowed.false

pub returns-then-not-lengths_fit : goal.returns-then-not-lengths_fit
unfolding lent_rows first_row bad_parameter wrong_length
returns-then-not-lengths_fit c =
    rw (← c.parameters_allowed.ensures, c.if-not-parameters_allowed.false, ← c.lengths_fit.ensures _ refl refl refl refl refl refl refl refl, c.if-not-lengths_fit.true)
    (refl, λ x. omega (arith, ap number_of x))

pub returns : goal.returns
unfolding lent_rows first_row bad_parameter wrong_length
returns c = rw (← c.parameters_allowed.ensures, c.if-not-parameters_allowed.false, ← c.lengths_fit.ensures _ refl refl refl refl refl refl refl refl, c.if-not-lengths_fit.false)
