-- The two ends of any call, by its reply: refused, with the rules' outcome, or accepted.
-- Assumes nothing.
use mathlib.Core.Path.{◌≡◌, sym, ap, ◌∙◌}
use mathlib.Core.Bool.{false}
use mathlib.Core.List.{[]}
use Rattle.std.specs.Prelude.{◌≢◌}
use Prim.Native.Nat.{ℕ}
use Rattle.rules.specs.declared.Params.{Params}
use Rattle.rules.specs.declared.Reply.{Reply}
use Rattle.rules.specs.declared.Reply.TheVariants.{Accepted}
use Rattle.rules.specs.declared.Answer.{Answer}
use Rattle.rules.specs.Tables.{Board}
use Rattle.rules.specs.Requests.{Call, lent, lent_answers}
use Rattle.rules.specs.Replies.{is_accepted, number_of, reply_of}
use Rattle.rules.specs.Calls.{answer_of, outcome_of}
use Rattle.rules.specs.Cuts.{limited, step_outcome}
use Rattle.rules.proofs.Outcomes.{accepted_by, call_refused, is_refused}
use Rattle.outcomes.specs.Claims.{outcome}
use Rattle.outcomes.proofs.Cuts.{step_refused}

module _ (p : Params) (b : Board) (c : Call) (r : Reply) (h : (reply_of p b c ≡ r) × (reply_of p b c ≢ Accepted)) where
  no : is_accepted (reply_of p b c) ≡ false
  no = is_refused (reply_of p b c) h.1

  -- a row's reply refuses the call
  pub refused_by : (a : Answer) → a ≡ answer_of r [] 0 → outcome a (lent c) (lent_answers c) b ≡ outcome_of p b c
  refused_by a is = (λ i. outcome ((is ∙ ap (λ (y : Reply). answer_of y [] 0) (sym h.0)) i) (lent c) (lent_answers c) b) ∙ sym (call_refused p b c no)

  -- with any budget too
  pub refused_with : (k : ℕ) → (a : Answer) → a ≡ answer_of r [] 0 → outcome a (lent c) (lent_answers c) b ≡ step_outcome p b (limited k c)
  refused_with k a is = refused_by a is ∙ sym (step_refused p b k c no)

module _ (p : Params) (b : Board) (c : Call) (r : Reply) (e : r ≡ reply_of p b c) (n : ℕ) (m : n ≡ number_of r) where
  -- and 0 accepts it
  pub reply_zero : n ≡ 0 → reply_of p b c ≡ Accepted
  reply_zero z = sym e ∙ accepted_by r n m z
