-- No call programs more than 256 pages, so the counts of an answer have their own places in its number.
-- Assumes nothing.
use mathlib.Core.Path.{◌≡◌, ap, ◌∙◌}
use mathlib.Core.Logic.{◌⊎◌, inl, inr}
use mathlib.Core.Bool.{Bool, true, false, cond}
use mathlib.Core.List.{[]}
use Prim.Native.Nat.{ℕ, ◌<◌}
use native.Mathlib.Omega.{arith}
use Rattle.rules.specs.declared.Params.{Params}
use Rattle.rules.specs.declared.Answer.{Answer}
use Rattle.rules.specs.declared.Reply.TheVariants.{Accepted}
use Rattle.rules.specs.Tables.{Board}
use Rattle.rules.specs.Traces.{programs_in}
use Rattle.rules.specs.Requests.{Call, format, item_requests, queue, read, release, start, write}
use Rattle.rules.specs.Replies.{is_accepted, reply_of}
use Rattle.rules.specs.Calls.{Work, answer_of, outcome_of}
use Rattle.rules.specs.Cuts.{Step, cut_outcome, is_cut, limited, plain, step_outcome}
use Rattle.rules.proofs.Admitted.{write_checks}
use Rattle.rules.proofs.Counts.{format_programs, start_counts}
use Rattle.rules.proofs.Outcomes.{all_answer, call_refused, format_accepted, queue_accepted, read_accepted, release_accepted, reply_cases, start_accepted, write_accepted}
use Rattle.rules.proofs.Sizes.{sizes}
use Rattle.rules.proofs.WritePromise.{write_promise}

accepted_few : (p : Params) (b : Board) (c : Call) → reply_of p b c ≡ Accepted → (outcome_of p b c).answer.programs < 65536
unfolding answer_of programs_in
accepted_few p b format e = rw (format_accepted p b e, format_programs p b.chip b.wear) (omega arith)
accepted_few p b (read q) e = rw (read_accepted p b q e) (omega arith)
accepted_few p b (release c) e = rw (release_accepted p b c e) (omega arith)
accepted_few p b (write q) e = rw (write_accepted p b q e) (omega (arith, (write_promise p b q e).bounded.0, (sizes p (write_checks p b q e).fine).pages_high))
accepted_few p b start e = rw (start_accepted p b e, (start_counts p b.chip b.wear).0) (omega arith)
accepted_few p b (queue l) e =
    let own : (outcome_of p b (queue l)).answer ≡ answer_of Accepted [] 0 =
    unfold outcome_of in (ap (λ (w : Work). w.answer) (queue_accepted p b l e) ∙ all_answer p b (item_requests p l.bytes l.items) l) in
    rw own (omega arith)

pub few_programs : (p : Params) (b : Board) (c : Call) → (outcome_of p b c).answer.programs < 65536
unfolding answer_of programs_in
few_programs p b c = go (reply_cases (reply_of p b c))
  where
    go : (reply_of p b c ≡ Accepted) ⊎ (is_accepted (reply_of p b c) ≡ false) → (outcome_of p b c).answer.programs < 65536
    go (inl e) = accepted_few p b c e
    go (inr e) = rw (call_refused p b c e) (omega arith)

-- with any budget
pub few_step : (p : Params) (b : Board) (s : Step) → (step_outcome p b s).answer.programs < 65536
unfolding step_outcome
few_step p b (plain c) = few_programs p b c
few_step p b (limited k c) = go (is_cut p b (limited k c))
  where
    go : (t : Bool) → (cond t (cut_outcome p b k c) (outcome_of p b c)).answer.programs < 65536
    go true = unfold cut_outcome answer_of programs_in in omega arith
    go false = few_programs p b c
