-- The answers of a queue of two have room in their numbers; and the numbers in their places.
-- Assumes nothing.
use mathlib.Core.Path.{◌≡◌, refl, sym, ap, ◌∙◌, subst}
use mathlib.Core.Logic.{◌⊎◌, inl, inr}
use mathlib.Core.Bool.{false}
use mathlib.Core.List.{List, [], ◌∷◌}
use Prim.Native.Nat.{ℕ, ◌<◌, ◌≤◌}
use native.Mathlib.Omega.{arith}
use lib.ListN.{length, set}
use borrow.Author.Tests.{le-leb, lt-leb}
use Rattle.rules.specs.declared.Params.{Params}
use Rattle.rules.specs.declared.Answer.{Answer}
use Rattle.rules.specs.declared.Item.{Item}
use Rattle.rules.specs.declared.Reply.TheVariants.{Accepted}
use Rattle.rules.specs.Tables.{Board}
use Rattle.rules.specs.Traces.{programs_in}
use Rattle.rules.specs.Requests.{Call, item_request, item_requests, lent_answers, queue, queue_of, write}
use Rattle.rules.specs.Replies.{is_accepted, reply_of}
use Rattle.rules.specs.Calls.{Outcome, answer_of, answers_in, outcome_of, over, write_all}
use Rattle.rules.proofs.Outcomes.{all_lent, call_refused, queue_accepted, reply_cases}
use Rattle.queue_turns.specs.Served.{item_outcome}
use Rattle.queue_turns.proofs.Served.{answers_more}
use Rattle.c_answer.proofs.Counts.{few_programs}
use Rattle.outcomes.specs.Claims.{outcome}
use Rattle.queue_test.specs.Two.{placed, unset}

abbrev AllFew : List Answer → Type 0
AllFew [] = Unit {0}
AllFew (a ∷ answers) = (a.programs < 65536) × AllFew answers

abbrev Few : Outcome → Type 0
Few o = (o.answer.programs < 65536) × AllFew o.answers

module _ (p : Params) (x : Board) (a b : Item) (bytes : List ℕ) where
  abbrev call : Call
  call = queue (queue_of (a ∷ b ∷ []) bytes (unset ∷ unset ∷ []))

  -- the items' answers
  both : answers_in (write_all p x (item_requests p bytes (a ∷ b ∷ [])) (queue_of (a ∷ b ∷ []) bytes (unset ∷ unset ∷ []))).parts
      ≡ (item_outcome p bytes x a).answer ∷ (item_outcome p bytes (item_outcome p bytes x a).board b).answer ∷ []
  unfolding item_requests item_outcome
  both =
      answers_more p x (item_request p bytes a) (item_request p bytes b ∷ []) _
      ∙ ap (λ (l : List Answer). (outcome_of p x (write (item_request p bytes a))).answer ∷ l) (answers_more p _ (item_request p bytes b) [] _ ∙ unfold write_all answers_in in refl)

  served_two : reply_of p x call ≡ Accepted → (outcome_of p x call).answers ≡ (item_outcome p bytes x a).answer ∷ (item_outcome p bytes (item_outcome p bytes x a).board b).answer ∷ []
  unfolding outcome_of over
  served_two e = rw (queue_accepted p x _ e, all_lent p x (item_requests p bytes (a ∷ b ∷ [])) _, both)

  -- both places have them, or are as lent
  few_answers : AllFew (outcome_of p x call).answers
  few_answers = go (reply_cases (reply_of p x call))
    where
      go : (reply_of p x call ≡ Accepted) ⊎ (is_accepted (reply_of p x call) ≡ false) → AllFew (outcome_of p x call).answers
      go (inl e) = rw (served_two e) (unfold item_outcome in (few_programs p x (write (item_request p bytes a)), (few_programs p _ (write (item_request p bytes b)), tt)))
      go (inr e) = rw (call_refused p x call e) (unfold lent_answers in (omega arith, (omega arith, tt)))

  few_call : Few (outcome_of p x call)
  few_call = (few_programs p x call, few_answers)

  pub few_two : (own first second : Answer) (x' : Board) → outcome own bytes (first ∷ second ∷ []) x' ≡ outcome_of p x call → Few (outcome own bytes (first ∷ second ∷ []) x')
  few_two own first second x' e = subst Few (sym e) few_call

-- an outcome with the parameters that the plain numbers make
pub with_params : (p q : Params) → p ≡ q → (x : Board) (c : Call) (o : Outcome) → o ≡ outcome_of p x c → o ≡ outcome_of q x c
with_params p q e x c o f = rw (← e) f

pub placed_four : (a b c d : ℕ) (list : List ℕ) → 4 ≤ length list → set (set (set (set list 0 a) 1 b) 2 c) 3 d ≡ placed (a ∷ b ∷ c ∷ d ∷ []) list
unfolding placed
placed_four a b c d [] h = absurd (omega (arith, h))
placed_four a b c d (x ∷ []) h = absurd (omega (arith, h))
placed_four a b c d (x ∷ y ∷ []) h = absurd (omega (arith, h))
placed_four a b c d (x ∷ y ∷ z ∷ []) h = absurd (omega (arith, h))
placed_four a b c d (x ∷ y ∷ z ∷ w ∷ rest) h = rw (le-leb 4 (length (x ∷ y ∷ z ∷ w ∷ rest)) h)

pub placed_none : (a b c d : ℕ) (list : List ℕ) → (4 ≤ length list → ⊥) → list ≡ placed (a ∷ b ∷ c ∷ d ∷ []) list
unfolding placed
placed_none a b c d list h = rw (lt-leb 4 (length list) (omega arith))
