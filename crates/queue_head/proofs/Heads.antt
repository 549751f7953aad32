-- The head of a queue: refused by the rows of the parameters and the lengths, by that of the answer list, or let through with what is known of the state.
-- Assumes nothing.
use mathlib.Core.Path.{◌≡◌, refl, ap}
use mathlib.Core.Bool.{Bool, true, false, cond, not}
use Prim.Native.Nat.{ℕ, ◌≤◌, ◌<◌}
use native.Mathlib.Omega.{arith}
use borrow.Author.Tests.{le-ltb, lt-ltb}
use Rattle.std.specs.Prelude.{Result, Ok, Err, IsErrAnd, is_ok}
use Rattle.std.proofs.lemmas.Result.{err_from_is_err_and}
use Rattle.rules.specs.declared.Params.{Params}
use Rattle.rules.specs.declared.Reply.{Reply}
use Rattle.rules.specs.declared.Reply.TheVariants.{Accepted, NotOrderly, TooFewAnswers}
use Rattle.rules.specs.Orderly.{orderly}
use Rattle.rules.specs.Replies.{first_row, lent_rows, not_orderly, number_of, order_row, queue_rows, too_few_answers}
use Rattle.rules.specs.Tables.{Board}
use Rattle.reply_rows.specs.Verdicts.{Verdict}
use Rattle.reply_rows.proofs.Rows.{after_lent, lent_passes, refuses}
use Rattle.queue_head.specs.declared.Head.{Head}
use Rattle.queue_head.specs.Heads.{HeadIs}

-- a state is let through where it is orderly
flag_is : (p : Params) (b : Board) (s : Result (Unit {0}) Reply) → Verdict s (first_row Accepted (order_row p b)) → is_ok s ≡ orderly p b
unfolding order_row first_row not_orderly
flag_is p b (Ok u) h = go (orderly p b) h
  where
    go : (t : Bool) → cond (not t) NotOrderly Accepted ≡ Accepted → true ≡ t
    go true k = refl
    go false k = absurd (omega (arith, ap number_of k))
flag_is p b (Err e) h = go (orderly p b) h.1
  where
    go : (t : Bool) → (cond (not t) NotOrderly Accepted ≡ Accepted → ⊥) → false ≡ t
    go true k = absurd (k refl)
    go false k = refl

module _ (p : Params) (b : Board) (items answers : ℕ) where
  -- what a `?` returns where the first rows refuse
  pub head_refused : (r : Result Head Reply) (e : Reply) → IsErrAnd r (λ y. y ≡ e) → Verdict (Err e) (first_row Accepted (lent_rows p b)) → HeadIs p b items answers r
  unfolding queue_rows
  head_refused r e is h = let y = err_from_is_err_and r is in rw (y.1, y.2, refuses (lent_rows p b) _ h.1) h

  module _ (z : first_row Accepted (lent_rows p b) ≡ Accepted) where
    pub too_few : answers < items → HeadIs p b items answers (Err TooFewAnswers)
    unfolding queue_rows first_row too_few_answers
    too_few h = rw (after_lent p b (lent_passes p b z), lt-ltb answers items h) (refl, λ x. omega (arith, ap number_of x))

    pub head_done : items ≤ answers → (s : Result (Unit {0}) Reply) → Verdict s (first_row Accepted (order_row p b))
        → HeadIs p b items answers (Ok (record { ordered = is_ok s; items = items }))
    unfolding queue_rows first_row too_few_answers
    head_done h s st =
        let y = lent_passes p b z in (
          rw (after_lent p b y, le-ltb answers items h),
          record { counted = refl; room = h; ready = record { fine = y.fine; lengths = y.fits; order = flag_is p b s st } },
        )
