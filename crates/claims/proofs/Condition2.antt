-- Condition 2: where the tables stand reads return what was last accepted, and a start is accepted and loses nothing; after a cut a start finds what was accepted; chip and wear are the trace's
-- replay, the trace is clean, and no page is programmed twice; a format is accepted again, and finds the same blocks bad.
-- Assumes nothing.
use mathlib.Core.Path.{◌≡◌, refl, ap, ◌∙◌}
use Prim.Native.Nat.{◌+◌}
use mathlib.Core.Bool.{true}
use mathlib.Core.List.{◌∷◌}
use Rattle.lists.specs.Below.{join_below}
use Rattle.rules.specs.declared.Params.{Params}
use Rattle.rules.specs.declared.Reply.TheVariants.{Accepted}
use Rattle.rules.specs.Parameters.{allowed}
use Rattle.rules.specs.Tables.{Board}
use Rattle.rules.specs.Traces.{erases_in, programs_in}
use Rattle.rules.specs.Requests.{Request, format, read, start}
use Rattle.rules.specs.Replies.{lengths_fit, reply_of}
use Rattle.rules.specs.Calls.{Outcome, answer_of, outcome_of}
use Rattle.rules.specs.Cuts.{plain}
use Rattle.rules.proofs.Admitted.{format_admitted}
use Rattle.rules.proofs.Outcomes.{read_accepted, start_accepted}
use Rattle.starts.proofs.Keeps.{start_keeps}
use Rattle.starts.proofs.Steady.{untouched}
use Rattle.claims.specs.Runs.{Belief, Known, Memory, belief_after, board_after, lost, nothing, stands}
use Rattle.claims.specs.Conditions.{Condition2, Holds, Intact, ReadBackAfterCut, Restarts}
use Rattle.claims.specs.Stamps.{StampsOverRuns}
use Rattle.claims.proofs.Again.{format_again, run_new, run_still}
use Rattle.claims.proofs.Beliefs.{Believed}
use Rattle.claims.proofs.Condition1.{in_order}
use Rattle.claims.proofs.CutCalls.{format_known, format_stands}
use Rattle.claims.proofs.CutTraces.{trace_long, trace_made, trace_once}
use Rattle.claims.proofs.Memory.{Agrees, read_agrees}
use Rattle.claims.proofs.Recovery.{found, recovered, stands_orderly}
use Rattle.claims.proofs.Standing.{Standing}
use Rattle.starts.proofs.Accepted.{admitted_start}

-- ---- where the tables stand

read_is : (p : Params) (b : Board) (m : Memory) (q : Request) → reply_of p b (read q) ≡ Accepted → Agrees p b m → (outcome_of p b (read q)).bytes ≡ join_below q.count (λ i. m (q.lba + i))
read_is p b m q e h = ap (λ (o : Outcome). o.bytes) (read_accepted p b q e) ∙ read_agrees p b m q e h

module _ (p : Params) (b : Board) (k : Known) (h : Standing p b k) (reads : Agrees p b k.memory) where
  restarts : Restarts p b k (outcome_of p b start)
  unfolding answer_of programs_in erases_in
  restarts =
      let st = h.stands in
      let keeps = start_keeps p b st in
      rw (start_accepted p b (admitted_start p b keeps.admitted))
      (record {
        accepted = refl;
        counts = rw keeps.operations (refl, refl, refl);
        chip = keeps.chip;
        reads = found p st.fine b st.lengths b k (untouched p b st) reads h.left;
      })

  intact : Intact p b k
  intact = record { order = in_order p b (stands_orderly p b h.stands); reads = λ q e. read_is p b k.memory q e reads; starts = restarts }

-- ---- by what the host knows

holds : (p : Params) → allowed p ≡ true → (b : Board) → lengths_fit p b ≡ true → (x : Belief) → Believed p b x → Holds p b x
holds p fine b long nothing h = tt
holds p fine b long (stands k) h = intact p b k h.0 h.1
holds p fine b long (lost k short) h = recovered p fine b long k short h.0 h.1

-- ---- the condition

pub condition_2 : Condition2
condition_2 p b e ss =
    let run = plain format ∷ ss in
    let a = format_admitted p b e in
    let t = trace_made p b run in
    record {
      now = λ x. holds p a.fine (board_after p b run) (trace_long p b run a.lengths) (belief_after p b run x) (format_known p b e ss x);
      intact = format_stands p b e ss;
      chip = t.chip;
      wear = t.wear;
      fits = t.fits;
      erased = t.erased;
      once = trace_once p b run a.lengths;
      again = format_again p b e run;
      still_bad = λ n h. run_still p a.fine n h b run a.lengths;
      new_bad = λ n h. run_new p a.fine n h b run a.lengths;
    }

pub read_back_after_cut : ReadBackAfterCut
read_back_after_cut p b e ss x k short is =
    let held : Holds p (board_after p b (plain format ∷ ss)) (lost k short) = rw is at ((condition_2 p b e ss).now x) in
    held

pub stamps_over_runs : StampsOverRuns
stamps_over_runs p b e ss x k is r low =
    let held : Believed p (board_after p b (plain format ∷ ss)) (stands k) = rw is at (format_known p b e ss x) in
    held.0.stands.timely r low
