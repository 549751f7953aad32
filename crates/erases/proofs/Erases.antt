-- T-10: call by call, a run's accepted writes to a region are spaced by the room that they find, and nothing else that is called takes room from the region. So any of
-- them in a row bring few erases.
-- Assumes nothing.
use Prim.Native.Nat.{ℕ, ◌≤◌, ◌<◌}
use mathlib.Core.Path.{◌≡◌, refl, sym, ◌∙◌}
use mathlib.Core.Logic.{◌⊎◌, inl, inr}
use mathlib.Core.Bool.{Bool, true, false, ◌&&◌, cond}
use mathlib.Core.List.{List, [], ◌∷◌, map}
use native.Mathlib.Decide.{ℕ_discrete}
use native.Mathlib.Omega.{arith}
use borrow.Author.Tests.{eq-eqb, ne_eqb}
use Rattle.rules.specs.declared.Params.{Params}
use Rattle.rules.specs.declared.Reply.TheVariants.{Accepted}
use Rattle.rules.specs.Tables.{Board}
use Rattle.rules.specs.Regions.{view}
use Rattle.rules.specs.Requests.{Call, Request, format, queue, read, release, request_region, start, write}
use Rattle.rules.specs.Replies.{is_accepted, reply_of}
use Rattle.rules.specs.Calls.{Part, outcome_of}
use Rattle.rules.specs.Cuts.{call_of}
use Rattle.rules.proofs.Admitted.{format_admitted}
use Rattle.rules.proofs.Outcomes.{reply_cases, reply_is}
use Rattle.rules.proofs.Sizes.{sizes}
use Rattle.rules.proofs.WritePromise.{write_promise}
use Rattle.starts.specs.Stands.{Stands}
use Rattle.claims.specs.Runs.{Known, parts_to, to_region}
use Rattle.claims.proofs.PlainRuns.{format_parts, plain_leaves, plain_parts}
use Rattle.claims.proofs.Condition1.{condition_1}
use Rattle.claims.proofs.Known.{known_by}
use Rattle.claims.proofs.Singles.{AllSingle, Single, all_single, parts_same, refused_leaves, singles_of}
use Rattle.claims.proofs.Standing.{Standing, call_standing, first_standing}
use Rattle.claims.proofs.Steps.{format_leaves, part_of, parts_step, read_leaves, release_leaves, start_leaves, write_leaves}
use Rattle.erases.specs.Erases.{ErasesPerRegion, accepted_writes, erases_by, is_write, spare_share}
use Rattle.erases.proofs.Room.{format_room, release_room, room, start_room, write_turn}
use Rattle.erases.proofs.Rows.{Spaced, Turn, few_erases, less_room}
use Rattle.erases.proofs.Shares.{share_some}

-- ---- one part more

module _ (p : Params) (r : ℕ) (x : Part) (xs : List Part) where
  one_more : erases_by p r (x ∷ xs) ≡ cond (is_write x.asks && (to_region p r x.asks && is_accepted x.answer.reply)) (x.answer.erases ∷ erases_by p r xs) (erases_by p r xs)
  unfolding erases_by parts_to accepted_writes
  one_more = go (to_region p r x.asks)
    where
      ys : List Part
      ys = parts_to p r xs

      counts : Part → ℕ
      counts y = y.answer.erases

      kept : (t : Bool) → map counts (cond t (x ∷ accepted_writes ys) (accepted_writes ys)) ≡ cond t (counts x ∷ map counts (accepted_writes ys)) (map counts (accepted_writes ys))
      kept true = refl
      kept false = refl

      left : (t : Bool) (more less : List ℕ) → less ≡ cond (t && false) more less
      left true more less = refl
      left false more less = refl

      go : (t : Bool) → map counts (accepted_writes (cond t (x ∷ ys) ys))
          ≡ cond (is_write x.asks && (t && is_accepted x.answer.reply)) (counts x ∷ map counts (accepted_writes ys)) (map counts (accepted_writes ys))
      go true = kept (is_write x.asks && is_accepted x.answer.reply)
      go false = left (is_write x.asks) _ _

-- ---- one call

module _ (p : Params) (r : ℕ) (low : r < p.mu) (b : Board) (es : List ℕ) where
  -- the erases of a call, before those of the calls after it
  abbrev Then : Call → List ℕ
  Then c = cond (is_write c && (to_region p r c && is_accepted (outcome_of p b c).answer.reply)) ((outcome_of p b c).answer.erases ∷ es) es

  abbrev After : Call → Type 0
  After c = Spaced (spare_share p r) (room p (view p (plain_leaves p b c) r)) es

  abbrev Before : List ℕ → Type 0
  Before = Spaced (spare_share p r) (room p (view p b r))

  -- where it takes no room, and is no accepted write to the region
  aside : (c : Call) → room p (view p b r) ≤ room p (view p (plain_leaves p b c) r) → After c → Before es
  aside c h s = less_room (spare_share p r) (room p (view p b r)) (room p (view p (plain_leaves p b c) r)) es h s

  refused_aside : (c : Call) → is_accepted (reply_of p b c) ≡ false → After c → Before es
  refused_aside c e s = aside c (rw (refused_leaves p b c e) (omega arith)) s

  format_call : After format → Before es
  format_call s = go (reply_cases (reply_of p b format))
    where
      go : (reply_of p b format ≡ Accepted) ⊎ (is_accepted (reply_of p b format) ≡ false) → Before es
      go (inl e) = aside format (rw (format_leaves p b e) (format_room p b r e)) s
      go (inr e) = refused_aside format e s

  release_call : (c : ℕ) → After (release c) → Before es
  release_call c s = go (reply_cases (reply_of p b (release c)))
    where
      go : (reply_of p b (release c) ≡ Accepted) ⊎ (is_accepted (reply_of p b (release c)) ≡ false) → Before es
      go (inl e) = aside (release c) (rw (release_leaves p b c e) (omega (arith, release_room p b c r))) s
      go (inr e) = refused_aside (release c) e s

  -- an accepted write reports what its plan says, and leaves the room that its plan leaves
  own_write : (q : Request) → request_region p q ≡ r → reply_of p b (write q) ≡ Accepted
      → Turn (spare_share p r) (room p (view p b r)) (outcome_of p b (write q)).answer.erases (room p (view p (plain_leaves p b (write q)) r))
  own_write q is e =
      let w = (condition_1 p b (write q)).writes q refl (reply_is p b (write q) ∙ e) in
      rw (w.erases, write_leaves p b q e, ← is) (write_turn p b q e)

  write_call : (q : Request) → After (write q) → Before (Then (write q))
  unfolding is_write to_region
  write_call q s = go (ℕ_discrete (request_region p q) r) (reply_cases (reply_of p b (write q)))
    where
      go : Dec (request_region p q ≡ r) → (reply_of p b (write q) ≡ Accepted) ⊎ (is_accepted (reply_of p b (write q)) ≡ false) → Before (Then (write q))
      go (yes is) (inl e) = rw (eq-eqb (request_region p q) r is, reply_is p b (write q), e) (unfold is_accepted in (room p (view p (plain_leaves p b (write q)) r), own_write q is e, s))
      go (yes is) (inr e) = rw (eq-eqb (request_region p q) r is, reply_is p b (write q), e) (refused_aside (write q) e s)
      go (no ne) (inl e) =
          rw (ne_eqb (request_region p q) r ne)
          (aside (write q) (rw (write_leaves p b q e, (write_promise p b q e).isolated r low (λ i. ne (sym i))) (omega arith)) s)
      go (no ne) (inr e) = rw (ne_eqb (request_region p q) r ne) (refused_aside (write q) e s)

  start_call : Stands p b → After start → Before es
  start_call st s = go (reply_cases (reply_of p b start))
    where
      go : (reply_of p b start ≡ Accepted) ⊎ (is_accepted (reply_of p b start) ≡ false) → Before es
      go (inl e) = aside start (rw (start_leaves p b e) (omega (arith, start_room p b r low st))) s
      go (inr e) = refused_aside start e s

  one_call : (c : Call) → Single c → Stands p b → After c → Before (Then c)
  unfolding is_write
  one_call format one st s = format_call s
  one_call (read q) one st s = aside (read q) (rw (read_leaves p b q) (omega arith)) s
  one_call (write q) one st s = write_call q s
  one_call (release c) one st s = release_call c s
  one_call start one st s = start_call st s
  one_call (queue l) one st s = absurd one

-- ---- a run

run_spaced : (p : Params) (r : ℕ) → r < p.mu → (b : Board) (k : Known) (cs : List Call) → AllSingle cs → Standing p b k
    → Spaced (spare_share p r) (room p (view p b r)) (erases_by p r (plain_parts p b cs))
unfolding part_of
run_spaced p r low b k [] s h = unfold erases_by plain_parts parts_to accepted_writes in tt
run_spaced p r low b k (c ∷ cs) s h =
    let es = erases_by p r (plain_parts p (plain_leaves p b c) cs) in
    rw (parts_step p b c cs s.0, one_more p r (part_of p b c) (plain_parts p (plain_leaves p b c) cs))
    (one_call p r low b es c s.0 h.stands (run_spaced p r low (plain_leaves p b c) (known_by p b c k) cs s.1 (call_standing p b k c s.0 h)))

-- the first format is no write
past_format : (p : Params) (b : Board) (cs : List Call) (r : ℕ) → erases_by p r (plain_parts p b (format ∷ cs)) ≡ erases_by p r (plain_parts p (plain_leaves p b format) cs)
past_format p b cs r = rw (parts_step p b format cs tt, one_more p r (part_of p b format) (plain_parts p (plain_leaves p b format) cs)) (unfold part_of is_write in refl)

-- no call of it is cut, so it is a plain run
pub erases_per_region : ErasesPerRegion
erases_per_region p b e ss u r low earlier row later is =
    few_erases (spare_share p r) (room p (view p (plain_leaves p b format) r)) earlier row later (share_some p (sizes p (format_admitted p b e).fine) r)
    (rw (← is, format_parts p b ss u, past_format p b cs r, parts_same p (plain_leaves p b format) cs)
    (run_spaced p r low (plain_leaves p b format) (known_by p b format k) (singles_of p (plain_leaves p b format) cs) (all_single p (plain_leaves p b format) cs) (first_standing p b k e)))
  where
    k : Known
    k = record { memory = λ a. []; released = λ c. false }

    cs : List Call
    cs = map call_of ss
