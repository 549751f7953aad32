-- `reply_rows::request_reply`: each return is the reply of the first row that applies.
-- Assumes nothing.
use mathlib.Core.Path.{refl, sym, ◌∙◌, ap}
use native.Mathlib.Omega.{arith}
use Rattle.rules.specs.Replies.{access_rows, first_row, number_of}
use Rattle.reply_rows.proofs.request_reply.Goals as goal

pub returns-then-bad_count-clause-value : goal.returns-then-bad_count-clause-value
unfolding access_rows first_row
returns-then-bad_count-clause-value c = λ q l k d. rw (← c.bad_count.ensures q l k, c.if-bad_count.true) (refl, λ x. omega (arith, ap number_of x))

pub returns-then-bad_address-clause-value : goal.returns-then-bad_address-clause-value
unfolding access_rows first_row
returns-then-bad_address-clause-value c =
    λ q l k d. rw (← c.bad_count.ensures q l k, c.if-bad_count.false, l, ← c.bad_address.ensures, c.if-bad_address.true) (refl, λ x. omega (arith, ap number_of x))

pub returns-then-wrong-clause-value : goal.returns-then-wrong-clause-value
unfolding access_rows first_row
returns-then-wrong-clause-value c =
    λ q l k d. rw (
      d (sym (c.bad_count.ensures q l k) ∙ c.if-bad_count.false),
      ← c.bad_count.ensures q l k,
      c.if-bad_count.false,
      l,
      ← c.bad_address.ensures,
      c.if-bad_address.false,
      c.if-wrong.true,
    )
    (refl, λ x. omega (arith, ap number_of x))

pub returns-clause-value : goal.returns-clause-value
unfolding access_rows first_row
returns-clause-value c =
    λ q l k d. rw (
      d (sym (c.bad_count.ensures q l k) ∙ c.if-bad_count.false),
      ← c.bad_count.ensures q l k,
      c.if-bad_count.false,
      l,
      ← c.bad_address.ensures,
      c.if-bad_address.false,
      c.if-wrong.false,
    )
