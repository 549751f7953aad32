-- A call with a budget: it is the plain call where it is not cut, and where it is, the chip stands as its first operations leave it, and the tables are gone.
-- Assumes nothing.
use mathlib.Core.Path.{◌≡◌, refl, ap, ◌∙◌}
use mathlib.Core.Logic.{◌⊎◌, inl, inr}
use Prim.Native.Nat.{ℕ, ◌+◌, ◌-◌, ◌≤◌, ◌<◌}
use native.Mathlib.Omega.{arith}
use mathlib.Core.Bool.{Bool, true, false, cond}
use mathlib.Core.List.{List, [], ◌∷◌, ◌++◌, append-nil}
use lib.Dec.{ltb}
use lib.ListN.{length, length-append}
use borrow.Author.Tests.{le-leb, leb-true, lt-leb, ltb-false, ltb-true}
use Rattle.lists.proofs.Tests.{and_intro, and_left, and_no, and_right, never}
use Rattle.rules.specs.declared.Params.{Params}
use Rattle.rules.specs.declared.Reply.TheVariants.{Accepted}
use Rattle.rules.specs.Tables.{Board}
use Rattle.rules.specs.Traces.{erases_in, programs_in}
use Rattle.rules.specs.Requests.{Call, format, item_requests, lent, lent_answers, queue, read, release, start, write}
use Rattle.rules.specs.Replies.{is_accepted, reply_of}
use Rattle.rules.specs.Calls.{Part, answer_of, ops_of, outcome_of, work_of}
use Rattle.rules.specs.Cuts.{call_of, cut_board, cut_outcome, cut_part, finished, has_budget, is_cut, limited, step_outcome}
use Rattle.rules.proofs.Outcomes.{all_bytes, all_lent, queue_accepted, reply_cases, reply_is}
use Rattle.claims.specs.Conditions.{Cuts, Finishes}
use Rattle.claims.proofs.PlainRuns.{uncut_outcome}
use Rattle.claims.proofs.Steps.{done_bytes_lem, done_bytes}

-- ---- which parts are finished

first_parts : (k : ℕ) (xs : List Part) → (rest : List Part) × (xs ≡ finished k xs ++ (cut_part k xs ++ rest))
unfolding finished cut_part
first_parts k [] = ([], refl)
first_parts k (x ∷ xs) = go (ltb (length x.ops) k) (first_parts (k - length x.ops) xs)
  where
    go : (t : Bool) → (rest : List Part) × (xs ≡ finished (k - length x.ops) xs ++ (cut_part (k - length x.ops) xs ++ rest))
        → (rest : List Part) × (x ∷ xs ≡ cond t (x ∷ finished (k - length x.ops) xs) [] ++ (cond t (cut_part (k - length x.ops) xs) (x ∷ []) ++ rest))
    go true below = (below.0, ap (λ (ys : List Part). x ∷ ys) below.1)
    go false below = (xs, refl)

fewer_made : (k : ℕ) (xs : List Part) → 0 < k → length (ops_of (finished k xs)) < k
unfolding finished ops_of
fewer_made k [] h = h
fewer_made k (x ∷ xs) h = go (ltb (length x.ops) k) refl (fewer_made (k - length x.ops) xs)
  where
    go : (t : Bool) → ltb (length x.ops) k ≡ t → (0 < k - length x.ops → length (ops_of (finished (k - length x.ops) xs)) < k - length x.ops)
        → length (ops_of (cond t (x ∷ finished (k - length x.ops) xs) [])) < k
    go true e below = let l = ltb-true (length x.ops) k e in rw (length-append x.ops (ops_of (finished (k - length x.ops) xs))) (omega (arith, below (omega arith)))
    go false e below = h

enough_made : (k : ℕ) (xs : List Part) → k ≤ length (ops_of xs) → k ≤ length (ops_of (finished k xs ++ cut_part k xs))
unfolding finished cut_part ops_of
enough_made k [] h = h
enough_made k (x ∷ xs) h = go (ltb (length x.ops) k) refl (enough_made (k - length x.ops) xs)
  where
    long : length (x.ops ++ ops_of xs) ≡ length x.ops + length (ops_of xs)
    long = length-append x.ops (ops_of xs)

    go : (t : Bool) → ltb (length x.ops) k ≡ t
        → (k - length x.ops ≤ length (ops_of xs) → k - length x.ops ≤ length (ops_of (finished (k - length x.ops) xs ++ cut_part (k - length x.ops) xs)))
        → k ≤ length (ops_of (cond t (x ∷ finished (k - length x.ops) xs) [] ++ cond t (cut_part (k - length x.ops) xs) (x ∷ [])))
    go true e below =
        rw (length-append x.ops (ops_of (finished (k - length x.ops) xs ++ cut_part (k - length x.ops) xs))) (omega (arith, below (omega (arith, long)), ltb-true (length x.ops) k e))
    go false e below = rw (append-nil x.ops) (ltb-false (length x.ops) k e)

pub finishes : (k : ℕ) (xs : List Part) → k ≤ length (ops_of xs) → Finishes k xs
finishes k xs h = record { first = first_parts k xs; fewer = fewer_made k xs; enough = enough_made k xs h }

-- ---- when it is cut

module _ (p : Params) (b : Board) (k : ℕ) (c : Call) where
  abbrev parts : List Part
  parts = (work_of p b c).parts

  work_reply : (work_of p b c).answer.reply ≡ reply_of p b c
  work_reply = unfold outcome_of in reply_is p b c

  -- what has no budget, is refused, or makes fewer operations is not
  pub no_budget : has_budget c ≡ false → is_cut p b (limited k c) ≡ false
  unfolding is_cut
  no_budget e = rw e

  pub refused_uncut : is_accepted (reply_of p b c) ≡ false → is_cut p b (limited k c) ≡ false
  unfolding is_cut
  refused_uncut e = rw (work_reply, e) (and_no (has_budget c) refl)

  pub fewer_uncut : length (ops_of parts) < k → is_cut p b (limited k c) ≡ false
  unfolding is_cut
  fewer_uncut h = rw (lt-leb k (length (ops_of parts)) h) (and_no (has_budget c) (and_no (is_accepted (work_of p b c).answer.reply) refl))

  is_cut_lem : has_budget c ≡ true → reply_of p b c ≡ Accepted → k ≤ length (ops_of parts) → is_cut p b (limited k c) ≡ true
  unfolding is_cut
  is_cut_lem h e few = and_intro h (and_intro (ap is_accepted (work_reply ∙ e) ∙ unfold is_accepted in refl) (le-leb k (length (ops_of parts)) few))

  -- and what is cut has a budget, is accepted, and would make no fewer
  pub cut_is : is_cut p b (limited k c) ≡ true → (has_budget c ≡ true) × (reply_of p b c ≡ Accepted) × (k ≤ length (ops_of parts))
  unfolding is_cut
  cut_is h =
      let more = and_right (has_budget c) h in
      (and_left (has_budget c) _ h, accepted (reply_cases (reply_of p b c)) (and_left (is_accepted (work_of p b c).answer.reply) _ more), leb-true _ _ (and_right (is_accepted (work_of p b c).answer.reply) more))
    where
      accepted : (reply_of p b c ≡ Accepted) ⊎ (is_accepted (reply_of p b c) ≡ false) → is_accepted (work_of p b c).answer.reply ≡ true → reply_of p b c ≡ Accepted
      accepted (inl e) h = e
      accepted (inr e) h = absurd (never h (ap is_accepted work_reply ∙ e))

  -- ---- what it leaves

  pub unspent_same : is_cut p b (limited k c) ≡ false → step_outcome p b (limited k c) ≡ outcome_of p b c
  unfolding call_of
  unspent_same e = uncut_outcome p b (limited k c) e

  pub cut_outcome_lem : is_cut p b (limited k c) ≡ true → step_outcome p b (limited k c) ≡ cut_outcome p b k c
  unfolding step_outcome
  cut_outcome_lem e = rw e

  -- the data and the answer list of an accepted call with a budget are as lent
  as_lent : has_budget c ≡ true → reply_of p b c ≡ Accepted → ((work_of p b c).bytes ≡ lent c) × ((work_of p b c).answers ≡ lent_answers c)
  as_lent h e = go c h e
    where
      go : (d : Call) → has_budget d ≡ true → reply_of p b d ≡ Accepted → ((work_of p b d).bytes ≡ lent d) × ((work_of p b d).answers ≡ lent_answers d)
      go format h e = unfold lent lent_answers done_bytes in done_bytes_lem p b format tt e
      go (read q) h e = absurd (never h (unfold has_budget in refl))
      go (write q) h e = unfold lent lent_answers done_bytes in done_bytes_lem p b (write q) tt e
      go (release n) h e = absurd (never h (unfold has_budget in refl))
      go (queue l) h e =
          let qs = item_requests p l.bytes l.items in
          unfold lent lent_answers in rw (queue_accepted p b l e) (all_bytes p b qs l, all_lent p b qs l)
      go start h e = unfold lent lent_answers done_bytes in done_bytes_lem p b start tt e

  pub cuts : has_budget c ≡ true → reply_of p b c ≡ Accepted → k ≤ length (ops_of parts) → Cuts p b c k parts (step_outcome p b (limited k c))
  cuts h e few =
      let l = as_lent h e in
      rw (cut_outcome_lem (is_cut_lem h e few))
      (unfold cut_outcome answer_of programs_in erases_in cut_board in
      record {
        reply = refl;
        counts = (refl, refl, refl);
        bytes = l.0;
        answers = rw l.1;
        finishes = finishes k parts few;
        chip = refl;
        wear = refl;
        ct = refl;
        bt = refl;
        fst = refl;
        bst = refl;
        marks = refl;
        stamps = refl;
      })
