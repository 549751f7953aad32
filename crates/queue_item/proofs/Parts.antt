-- The two ends of an item: refused by a row, and with its work done, which may still refuse it with 10. Both are the single write that it asks for.
-- Assumes nothing.
use mathlib.Core.Path.{◌≡◌, refl, sym, ap, ◌∙◌}
use mathlib.Core.Logic.{◌⊎◌, inl, inr}
use mathlib.Core.Bool.{Bool, true, false, not}
use mathlib.Core.List.{List, [], append-nil}
use Prim.Native.Nat.{ℕ, ◌+◌, ◌*◌, ◌-◌, ◌≤◌, ◌<◌}
use native.Mathlib.Omega.{arith}
use native.Mathlib.Decide.{dec_lt}
use lib.ListN.{length, take, drop}
use borrow.Author.Tests.{leb-true, not-false}
use Rattle.std.specs.Prelude.{Err}
use Rattle.loops.proofs.Lent.{width}
use Rattle.rules.specs.declared.Params.{Params}
use Rattle.rules.specs.declared.Reply.{Reply}
use Rattle.rules.specs.declared.Reply.TheVariants.{Accepted}
use Rattle.rules.specs.declared.Answer.{Answer}
use Rattle.rules.specs.declared.Item.{Item}
use Rattle.rules.specs.Tables.{Board}
use Rattle.rules.specs.Orderly.{orderly}
use Rattle.rules.specs.Requests.{Request, item_request, lies, write, request_of}
use Rattle.rules.specs.Replies.{bad_count, early_rows, first_row, is_accepted, lengths_fit, reply_of, wrong_data}
use Rattle.rules.specs.Write.{write_ops}
use Rattle.rules.specs.Calls.{Outcome, answer_of, ops_of, outcome_of, single, work_of}
use Rattle.rules.specs.Cuts.{limited, step_outcome}
use Rattle.rules.proofs.Admitted.{Checks, early_in}
use Rattle.rules.proofs.ItemData.{item_data}
use Rattle.rules.proofs.Outcomes.{call_refused, is_refused, reply_cases, write_accepted}
use Rattle.rules.proofs.WritePromise.{write_promise}
use Rattle.queue_turns.specs.Served.{item_outcome}
use Rattle.queue_turns.specs.Limited.{item_step, left_after}
use Rattle.queue_turns.proofs.Limited.{none_made}
use Rattle.outcomes.specs.Claims.{outcome}
use Rattle.outcomes.proofs.Cuts.{step_refused, step_whole, write_work_lem}
use Rattle.reply_rows.specs.Verdicts.{Verdict}
use Rattle.reply_rows.proofs.Rows.{early_reply}
use Rattle.queue_head.specs.Heads.{Ready}
use Rattle.queue_item.specs.Items.{ItemIs, ItemLimited}

-- what the reply of an item says of the row that answers it
abbrev Replied : Params → Bool → List ℕ → ℕ → ℕ → Bool → (Reply → Type 0) → Type 0
Replied p ordered stamps lba count fits says =
    (b : Board) (q : Request) → lengths_fit p b ≡ true → ordered ≡ orderly p b → b.stamps ≡ stamps → q.lba ≡ lba → q.count ≡ count
    → (bad_count p q ≡ false → wrong_data p q ≡ not fits) → says (first_row Accepted (early_rows p b q))

module _ (p : Params) (ordered : Bool) (b : Board) (y : Ready p ordered b) (bytes : List ℕ) (it : Item) where
  -- the write that it asks for
  abbrev request : Request
  request = item_request p bytes it

  -- replied by its count, its address, whether its bytes lie there, the flag, and the last stamps
  module _ (fits : Bool) (fit : fits ≡ lies p bytes it) where
    early : (says : Reply → Type 0) → Replied p ordered b.stamps it.lba it.count fits says → says (first_row Accepted (early_rows p b request))
    unfolding item_request
    early says replied = replied b request y.lengths y.order refl refl refl (λ e. item_data p bytes it y.fine e ∙ ap not (sym fit))

    module _ (r : Reply) (replied : Replied p ordered b.stamps it.lba it.count fits (λ row. Verdict (Err r) row)) where
      is : Verdict (Err r) (reply_of p b (write request))
      is = early_reply p b request r (early (λ row. Verdict (Err r) row) replied)

      not_taken : is_accepted (reply_of p b (write request)) ≡ false
      not_taken = is_refused (reply_of p b (write request)) is.1

      pub item_refused : (a : Answer) → a ≡ answer_of r [] 0 → ItemIs p ordered b bytes it a b
      unfolding item_outcome
      item_refused a an =
          let o = call_refused p b (write request) not_taken in
          record {
            answered = an ∙ ap (λ (k : Reply). answer_of k [] 0) (sym is.0) ∙ sym (ap (λ (k : Outcome). k.answer) o);
            left = sym (ap (λ (k : Outcome). k.board) o);
            ready = y;
          }

      -- with any budget
      pub limited_refused : (a : Answer) → a ≡ answer_of r [] 0 → (k : ℕ) → ItemLimited p ordered b bytes k it a k b
      unfolding item_step left_after
      limited_refused a an k =
          let o = step_refused p b k (write request) not_taken ∙ call_refused p b (write request) not_taken in
          record {
            answered = an ∙ ap (λ (q : Reply). answer_of q [] 0) (sym is.0) ∙ sym (ap (λ (q : Outcome). q.answer) o);
            board = sym (ap (λ (q : Outcome). q.board) o);
            left = omega (arith, none_made p b request not_taken);
            ready = λ some. y;
          }

    module _ (replied : Replied p ordered b.stamps it.lba it.count fits (λ row. row ≡ Accepted)) where
      passed : first_row Accepted (early_rows p b request) ≡ Accepted
      passed = early (λ row. row ≡ Accepted) replied

      checks : Checks p b request
      checks = (early_in p b request passed).checks

      there : lies p bytes it ≡ true
      there = not-false _ (sym (item_data p bytes it y.fine checks.count) ∙ checks.given)

      pub inside : it.first + it.count * p.s ≤ length bytes
      unfolding lies
      inside = leb-true _ _ there

      -- with the part of the data that is lent for it
      abbrev asked : Request
      asked = request_of it.lba it.count (take (it.first + it.count * p.s - it.first) (drop it.first bytes))

      asked_is : asked ≡ request
      unfolding item_request
      asked_is = rw (there, width)

      pub asked_early : first_row Accepted (early_rows p b asked) ≡ Accepted
      asked_early = rw asked_is passed

      -- what the write leaves is in order, and where it is refused with 10 it is the board that it had
      ready_after : Ready p ordered (item_outcome p bytes b it).board
      unfolding item_outcome
      ready_after = go (reply_cases (reply_of p b (write request)))
        where
          go : (reply_of p b (write request) ≡ Accepted) ⊎ (is_accepted (reply_of p b (write request)) ≡ false) → Ready p ordered (outcome_of p b (write request)).board
          go (inl e) =
              let w = write_promise p b request e in
              rw (write_accepted p b request e) (record { fine = y.fine; lengths = w.lengths; order = y.order ∙ checks.tidy ∙ sym w.orderly_left })
          go (inr e) = rw (call_refused p b (write request) e) y

      pub item_done : (a : Answer) (b' : Board) → outcome a asked.bytes [] b' ≡ outcome_of p b (write asked) → ItemIs p ordered b bytes it a b'
      unfolding item_outcome
      item_done a b' e =
          let same : outcome a asked.bytes [] b' ≡ outcome_of p b (write request) = e ∙ ap (λ (q : Request). outcome_of p b (write q)) asked_is in
          let left : b' ≡ (outcome_of p b (write request)).board = ap (λ (k : Outcome). k.board) same in
          record { answered = ap (λ (k : Outcome). k.answer) same; left = left; ready = rw left (unfold item_outcome in ready_after) }

      -- with budget left over it is the plain write, also where it is refused
      whole : (k : ℕ) → (left_after p bytes b k it ≡ 0 → ⊥) → step_outcome p b (limited k (write request)) ≡ outcome_of p b (write request)
      unfolding left_after ops_of single
      whole k some = go (reply_cases (reply_of p b (write request)))
        where
          go : (reply_of p b (write request) ≡ Accepted) ⊎ (is_accepted (reply_of p b (write request)) ≡ false) → step_outcome p b (limited k (write request)) ≡ outcome_of p b (write request)
          go (inl e) =
              let made : ops_of (work_of p b (write request)).parts ≡ write_ops p b request = rw (write_work_lem p b request e) (append-nil (write_ops p b request)) in
              step_whole p b k (write request) _ _ _ _ (write_work_lem p b request e) (more (dec_lt (length (write_ops p b request)) k) (ap length made))
            where
              more : Dec (length (write_ops p b request) < k) → length (ops_of (work_of p b (write request)).parts) ≡ length (write_ops p b request) → length (write_ops p b request) < k
              more (yes h) same = h
              more (no h) same = absurd (some (omega (arith, same)))
          go (inr e) = step_refused p b k (write request) e

      pub limited_done : (k : ℕ) (a : Answer) (left : ℕ) (b' : Board) → outcome a asked.bytes [] b' ≡ step_outcome p b (limited k (write asked))
          → left ≡ k - length (ops_of (work_of p b (write asked)).parts) → ItemLimited p ordered b bytes k it a left b'
      unfolding item_step
      limited_done k a left b' e l =
          let same : outcome a asked.bytes [] b' ≡ step_outcome p b (limited k (write request)) = e ∙ ap (λ (q : Request). step_outcome p b (limited k (write q))) asked_is in
          let rest : left ≡ left_after p bytes b k it = unfold left_after in (l ∙ ap (λ (q : Request). k - length (ops_of (work_of p b (write q)).parts)) asked_is) in
          record {
            answered = ap (λ (q : Outcome). q.answer) same;
            board = ap (λ (q : Outcome). q.board) same;
            left = rest;
            ready = λ some. rw (ap (λ (q : Outcome). q.board) (same ∙ whole k (λ x. some (rest ∙ x)))) (unfold item_outcome in ready_after);
          }
