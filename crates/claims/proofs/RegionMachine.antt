-- A region as a machine of its own: its state is its view and its last stamp, and what it answers and how they change follow from them and the request
-- alone. Every run gives a region what the machine gives for the requests to it.
-- Assumes nothing.
use mathlib.Core.Path.{◌≡◌, refl, sym, ap, ap₂, ◌∙◌}
use mathlib.Core.Logic.{◌⊎◌, inl, inr}
use Prim.Native.Nat.{ℕ, ◌+◌, ◌*◌, ◌<◌}
use mathlib.Core.Bool.{Bool, true, false, not, cond, false≢true}
use mathlib.Core.List.{List, [], ◌∷◌, map}
use borrow.Author.Tests.{eqb-false, eqb-true, not-true}
use lib.ListN.{length, length-replicate, replicate}
use Rattle.lists.specs.Below.{join_below}
use Rattle.lists.proofs.Tests.{and_left, and_right, so}
use Rattle.rules.specs.declared.Params.{Params}
use Rattle.rules.specs.declared.Reply.{Reply}
use Rattle.rules.specs.declared.Reply.TheVariants.{Accepted}
use Rattle.rules.specs.Numbers.{region_of, sector_of}
use Rattle.rules.specs.Tables.{Board, stamp_at}
use Rattle.rules.specs.Orderly.{enough}
use Rattle.rules.specs.Regions.{View, looks_at, looks_in, sector, sector_in, view}
use Rattle.rules.specs.Traces.{erases_in, programs_in}
use Rattle.rules.specs.Requests.{Call, Request, format, queue, read, release, request_cluster, request_of, request_region, start, write}
use Rattle.rules.specs.Write.{copies, next_stamp, plan_erases, plan_of}
use Rattle.rules.specs.Machine.{view_after, without}
use Rattle.rules.specs.Replies.{OrderlyBoard, access_rows, bad_count, is_accepted, reply_of, wrong_data}
use Rattle.rules.specs.Calls.{Outcome, Part, answer_of, outcome_of, read_bytes}
use Rattle.rules.proofs.Outcomes.{call_refused, read_accepted, release_accepted, reply_cases, write_accepted}
use Rattle.rules.proofs.Releases.{released_else, released_view}
use Rattle.rules.proofs.TableFacts.{Lengths, lengths_in}
use Rattle.rules.proofs.WritePromise.{write_promise}
use Rattle.claims.specs.Runs.{Told, asked, parts_to, requests_to, resets, to_region, told, told_to}
use Rattle.claims.proofs.PlainRuns.{plain_board, plain_leaves, plain_parts, plain_undisturbed}
use Rattle.claims.proofs.Kept.{cluster_reply, orderly_kept, orderly_read, orderly_release, orderly_write, request_reply, write_reply}
use Rattle.claims.proofs.Roomy.{plain_roomy}
use Rattle.claims.proofs.Singles.{AllSingle, Single, refused_leaves}
use Rattle.claims.proofs.Stamps.{other_stamp, released_stamp, written_stamp}
use Rattle.claims.proofs.Steps.{part_of, parts_step, read_leaves, release_leaves, write_leaves}

-- what the caller of a call is told
unfoldable pub told_by : Outcome → Told
told_by o = told o.answer o.bytes

-- ---- the machine

-- what the region shows, and its last stamp
pub record State : Type 0 where
  pub vw : View
  pub stamp : ℕ

abbrev pub state_of : Params → Board → ℕ → State
state_of p b r = record { vw = view p b r; stamp = stamp_at b.stamps r }

tells : Reply → ℕ → ℕ → ℕ → List ℕ → Told
tells r programs erases looks bytes = record { answer = record { reply = r; programs = programs; erases = erases; looks = looks }; bytes = bytes }

-- what it answers
answer_by : Params → State → Call → Told
answer_by p st format = tells Accepted 0 0 0 []
answer_by p st (read q) =
    let vw = st.vw in
    cond (is_accepted (request_reply p q))
    (tells Accepted 0 0 (looks_in p vw (request_cluster p q)) (join_below q.count (λ i. sector_in p vw (request_cluster p q) (sector_of p q.lba + i))))
    (tells (request_reply p q) 0 0 0 [])
answer_by p st (write q) =
    let vw = st.vw in
    cond (is_accepted (write_reply p st.stamp q))
    (tells Accepted (p.alpha * (length (copies p vw (plan_of p vw)) + 1)) (plan_erases (plan_of p vw)) (looks_in p vw (request_cluster p q)) q.bytes)
    (tells (write_reply p st.stamp q) 0 0 0 [])
answer_by p st (release c) = tells (cluster_reply p c) 0 0 0 []
answer_by p st (queue l) = tells Accepted 0 0 0 []
answer_by p st start = tells Accepted 0 0 0 []

-- its next state
state_by : Params → State → Call → State
state_by p st format = st
state_by p st (read q) = st
state_by p st (release c) = cond (is_accepted (cluster_reply p c)) (record { vw = without st.vw c; stamp = st.stamp }) st
state_by p st (write q) = cond (is_accepted (write_reply p st.stamp q)) (record { vw = view_after p st.vw (st.stamp + 1) q; stamp = st.stamp + 1 }) st
state_by p st (queue l) = st
state_by p st start = st

-- over a list of requests
pub state_run : Params → State → List Call → State
state_run p st [] = st
state_run p st (c ∷ cs) = state_run p (state_by p st c) cs

pub state_answers : Params → State → List Call → List Told
state_answers p st [] = []
state_answers p st (c ∷ cs) = answer_by p st c ∷ state_answers p (state_by p st c) cs

-- ---- a call to the region is a step of the machine

abbrev state : View → ℕ → State
state vw t = record { vw = vw; stamp = t }

module _ (p : Params) (b : Board) (ordered : OrderlyBoard p b) (room : enough p b ≡ true) where
  lengths : Lengths p b
  lengths = lengths_in p b ordered.lengths

  refused_told : (c : Call) (r : Reply) → is_accepted r ≡ false → reply_of p b c ≡ r → told_by (outcome_of p b c) ≡ tells r 0 0 0 []
  unfolding told_by told answer_of programs_in erases_in tells
  refused_told c r e is = rw (call_refused p b c (rw is e), is, e)

  read_told : (r : ℕ) (q : Request) → request_region p q ≡ r → told_by (outcome_of p b (read q)) ≡ answer_by p (state_of p b r) (read q)
  unfolding answer_by
  read_told r q is = go (reply_cases (request_reply p q))
    where
      reply : reply_of p b (read q) ≡ request_reply p q
      reply = orderly_read p b q ordered

      go : (request_reply p q ≡ Accepted) ⊎ (is_accepted (request_reply p q) ≡ false) → told_by (outcome_of p b (read q)) ≡ answer_by p (state_of p b r) (read q)
      go (inl e) = rw (e, read_accepted p b q (reply ∙ e)) (unfold is_accepted told_by told answer_of programs_in erases_in tells read_bytes sector looks_at in rw (← is))
      go (inr e) = rw e (refused_told (read q) (request_reply p q) e reply)

  written_told : (q : Request) → reply_of p b (write q) ≡ Accepted
      → told_by (outcome_of p b (write q)) ≡ tells Accepted (p.alpha * (length (copies p (view p b (request_region p q)) (plan_of p (view p b (request_region p q)))) + 1))
      (plan_erases (plan_of p (view p b (request_region p q))))
      (looks_in p (view p b (request_region p q)) (request_cluster p q)) q.bytes
  unfolding told_by told is_accepted answer_of tells looks_at
  written_told q e =
      let w = write_promise p b q e in
      ap told_by (write_accepted p b q e) ∙ ap₂ (λ (n m : ℕ). tells Accepted n m (looks_in p (view p b (request_region p q)) (request_cluster p q)) q.bytes) w.programs w.erases

  write_told : (r : ℕ) (q : Request) → request_region p q ≡ r → told_by (outcome_of p b (write q)) ≡ answer_by p (state_of p b r) (write q)
  unfolding answer_by
  write_told r q is = go (reply_cases (write_reply p (stamp_at b.stamps r) q))
    where
      reply : reply_of p b (write q) ≡ write_reply p (stamp_at b.stamps r) q
      reply = rw (← is) (orderly_write p b q ordered room)

      go : (write_reply p (stamp_at b.stamps r) q ≡ Accepted) ⊎ (is_accepted (write_reply p (stamp_at b.stamps r) q) ≡ false)
          → told_by (outcome_of p b (write q)) ≡ answer_by p (state_of p b r) (write q)
      go (inl e) = rw e (unfold is_accepted in rw (← is) (written_told q (reply ∙ e)))
      go (inr e) = rw e (refused_told (write q) (write_reply p (stamp_at b.stamps r) q) e reply)

  write_own : (r : ℕ) (q : Request) → r < p.mu → request_region p q ≡ r → state_of p (plain_leaves p b (write q)) r ≡ state_by p (state_of p b r) (write q)
  unfolding state_by stamp_at next_stamp
  write_own r q low is = go (reply_cases (write_reply p (stamp_at b.stamps r) q))
    where
      reply : reply_of p b (write q) ≡ write_reply p (stamp_at b.stamps r) q
      reply = rw (← is) (orderly_write p b q ordered room)

      go : (write_reply p (stamp_at b.stamps r) q ≡ Accepted) ⊎ (is_accepted (write_reply p (stamp_at b.stamps r) q) ≡ false)
          → state_of p (plain_leaves p b (write q)) r ≡ state_by p (state_of p b r) (write q)
      go (inl e) =
          rw (e, write_leaves p b q (reply ∙ e))
          (unfold is_accepted in ap₂ state (rw (← is) (write_promise p b q (reply ∙ e)).own) (rw (← is) (written_stamp p b q (rw is (rw lengths.stamps_length low)))))
      go (inr e) = rw (e, refused_leaves p b (write q) (rw reply e))

  write_else : (r : ℕ) (q : Request) → r < p.mu → (request_region p q ≡ r → ⊥) → state_of p (plain_leaves p b (write q)) r ≡ state_of p b r
  write_else r q low ne = go (reply_cases (reply_of p b (write q)))
    where
      go : (reply_of p b (write q) ≡ Accepted) ⊎ (is_accepted (reply_of p b (write q)) ≡ false) → state_of p (plain_leaves p b (write q)) r ≡ state_of p b r
      go (inl e) =
          rw (write_leaves p b q e)
          (ap₂ state ((write_promise p b q e).isolated r low (λ i. ne (sym i))) (other_stamp p b q r ne))
      go (inr e) = rw (refused_leaves p b (write q) e)

  release_told : (c : ℕ) (st : State) → told_by (outcome_of p b (release c)) ≡ answer_by p st (release c)
  unfolding answer_by
  release_told c st = go (reply_cases (cluster_reply p c))
    where
      reply : reply_of p b (release c) ≡ cluster_reply p c
      reply = orderly_release p b c ordered

      go : (cluster_reply p c ≡ Accepted) ⊎ (is_accepted (cluster_reply p c) ≡ false) → told_by (outcome_of p b (release c)) ≡ answer_by p st (release c)
      go (inl e) = rw (e, release_accepted p b c (reply ∙ e)) (unfold is_accepted told_by told answer_of programs_in erases_in tells in refl)
      go (inr e) = refused_told (release c) (cluster_reply p c) e reply

  release_own : (r c : ℕ) → state_of p (plain_leaves p b (release c)) r ≡ state_by p (state_of p b r) (release c)
  unfolding state_by
  release_own r c = go (reply_cases (cluster_reply p c))
    where
      reply : reply_of p b (release c) ≡ cluster_reply p c
      reply = orderly_release p b c ordered

      go : (cluster_reply p c ≡ Accepted) ⊎ (is_accepted (cluster_reply p c) ≡ false) → state_of p (plain_leaves p b (release c)) r ≡ state_by p (state_of p b r) (release c)
      go (inl e) = rw (e, release_leaves p b c (reply ∙ e)) (unfold is_accepted in ap₂ state (released_view p b c r) (released_stamp p b c r))
      go (inr e) = rw (e, refused_leaves p b (release c) (rw reply e))

  release_else : (r c : ℕ) → (region_of p c ≡ r → ⊥) → state_of p (plain_leaves p b (release c)) r ≡ state_of p b r
  release_else r c ne = go (reply_cases (cluster_reply p c))
    where
      reply : reply_of p b (release c) ≡ cluster_reply p c
      reply = orderly_release p b c ordered

      go : (cluster_reply p c ≡ Accepted) ⊎ (is_accepted (cluster_reply p c) ≡ false) → state_of p (plain_leaves p b (release c)) r ≡ state_of p b r
      go (inl e) = rw (release_leaves p b c (reply ∙ e)) (ap₂ state (released_else p b c r ne) (released_stamp p b c r))
      go (inr e) = rw (refused_leaves p b (release c) (rw reply e))

-- ---- what a read's bytes hold makes no difference to the machine

asked_reply : (p : Params) (q : Request) → request_reply p (request_of q.lba q.count (replicate (length q.bytes) 0)) ≡ request_reply p q
unfolding request_reply access_rows bad_count wrong_data
asked_reply p q = rw (length-replicate {A = ℕ} (length q.bytes) 0)

asked_state : (p : Params) (st : State) (c : Call) → state_by p st (asked c) ≡ state_by p st c
unfolding asked state_by
asked_state p st format = refl
asked_state p st (read q) = refl
asked_state p st (write q) = refl
asked_state p st (release c) = refl
asked_state p st (queue l) = refl
asked_state p st start = refl

asked_answer : (p : Params) (st : State) (c : Call) → answer_by p st (asked c) ≡ answer_by p st c
unfolding asked answer_by
asked_answer p st format = refl
asked_answer p st (read q) = rw (asked_reply p q)
asked_answer p st (write q) = refl
asked_answer p st (release c) = refl
asked_answer p st (queue l) = refl
asked_answer p st start = refl

-- ---- a call more in the requests to a region, and in what is told of them

one_more {ℓ} : {A : Type ℓ} (f : Part → A) (p : Params) (r : ℕ) (x : Part) (xs : List Part)
    → map f (parts_to p r (x ∷ xs)) ≡ cond (to_region p r x.asks) (f x ∷ map f (parts_to p r xs)) (map f (parts_to p r xs))
unfolding parts_to
one_more {A = A} f p r x xs = go (to_region p r x.asks)
  where
    go : (t : Bool) → map f (cond t (x ∷ parts_to p r xs) (parts_to p r xs)) ≡ cond t (f x ∷ map f (parts_to p r xs)) (map f (parts_to p r xs))
    go true = refl
    go false = refl

-- ---- a run

-- one call: to the region it is a step of the machine, to another it changes nothing here
record Turn (p : Params) (b : Board) (r : ℕ) (c : Call) : Type 0 where
  own : to_region p r c ≡ true → (state_of p (plain_leaves p b c) r ≡ state_by p (state_of p b r) c) × (told_by (outcome_of p b c) ≡ answer_by p (state_of p b r) c)
  else : to_region p r c ≡ false → state_of p (plain_leaves p b c) r ≡ state_of p b r

turn : (p : Params) (b : Board) (r : ℕ) → r < p.mu → OrderlyBoard p b → enough p b ≡ true → (c : Call) → Single c → resets c ≡ false → Turn p b r c
unfolding to_region resets
turn p b r low h room format s n = absurd (false≢true (sym n))
turn p b r low h room (read q) s n =
    record { own = λ e. (rw (read_leaves p b q) (unfold state_by in refl), read_told p b h room r q (eqb-true _ _ e)); else = λ e. rw (read_leaves p b q) }
turn p b r low h room (write q) s n =
    record { own = λ e. (write_own p b h room r q low (eqb-true _ _ e), write_told p b h room r q (eqb-true _ _ e)); else = λ e. write_else p b h room r q low (eqb-false _ _ e) }
turn p b r low h room (release c) s n =
    record { own = λ e. (release_own p b h room r c, release_told p b h room c (state_of p b r)); else = λ e. release_else p b h room r c (eqb-false _ _ e) }
turn p b r low h room (queue l) s n = absurd s
turn p b r low h room start s n = absurd (false≢true (sym n))

-- what a run of single calls without a format or a start leaves a region and tells it
pub record Gives (p : Params) (b : Board) (r : ℕ) (cs : List Call) : Type 0 where
  pub left : state_of p (plain_board p b cs) r ≡ state_run p (state_of p b r) (requests_to p r (plain_parts p b cs))
  pub answers : told_to p r (plain_parts p b cs) ≡ state_answers p (state_of p b r) (requests_to p r (plain_parts p b cs))

pub run_gives : (p : Params) (r : ℕ) → r < p.mu → (b : Board) (cs : List Call) → AllSingle cs → OrderlyBoard p b → plain_undisturbed cs ≡ true → plain_roomy p b cs ≡ true
    → Gives p b r cs
unfolding plain_board plain_undisturbed plain_roomy
run_gives p r low b [] s h n room = unfold plain_board plain_parts parts_to requests_to told_to state_run state_answers in record { left = refl; answers = refl }
run_gives p r low b (c ∷ cs) s h n room =
    go (so (to_region p r c)) (turn p b r low h (and_left (enough p b) _ room) c s.0 (not-true _ (and_left (not (resets c)) _ n)))
    (run_gives p r low (plain_leaves p b c) cs s.1 (orderly_kept p b c s.0 h) (and_right (not (resets c)) n) (and_right (enough p b) room))
  where
    requests : requests_to p r (plain_parts p b (c ∷ cs)) ≡ cond (to_region p r c) (asked c ∷ requests_to p r (plain_parts p (plain_leaves p b c) cs)) (requests_to p r (plain_parts p (plain_leaves p b c) cs))
    requests = ap (requests_to p r) (parts_step p b c cs s.0) ∙ unfold part_of requests_to in one_more (λ (x : Part). asked x.asks) p r (part_of p b c) (plain_parts p (plain_leaves p b c) cs)

    answered : told_to p r (plain_parts p b (c ∷ cs)) ≡ cond (to_region p r c) (told_by (outcome_of p b c) ∷ told_to p r (plain_parts p (plain_leaves p b c) cs)) (told_to p r (plain_parts p (plain_leaves p b c) cs))
    answered = ap (told_to p r) (parts_step p b c cs s.0) ∙ unfold part_of told_by told_to in one_more (λ (x : Part). told x.answer x.bytes) p r (part_of p b c) (plain_parts p (plain_leaves p b c) cs)

    go : (to_region p r c ≡ true) ⊎ (to_region p r c ≡ false) → Turn p b r c → Gives p (plain_leaves p b c) r cs → Gives p b r (c ∷ cs)
    go (inl e) t below =
        record {
          left = unfold plain_board in (below.left ∙ rw (requests, e) (unfold state_run in rw ((t.own e).0, ← asked_state p (state_of p b r) c)));
          answers = rw (answered, requests, e) (unfold state_answers in rw (below.answers, (t.own e).1, (t.own e).0, ← asked_state p (state_of p b r) c, ← asked_answer p (state_of p b r) c));
        }
    go (inr e) t below =
        record {
          left = unfold plain_board in (below.left ∙ rw (requests, e, t.else e));
          answers = rw (answered, requests, e) (below.answers ∙ rw (t.else e));
        }
