-- From the queue as its loop goes, `served_from`, to the queue as the rules say it, `outcome_of`.
--     one-answered   the first of the items that are left is served, its answer in its place
--     all_refused    refused by the head, the whole call
--     fold_is        let through by it, the whole call
-- Assumes nothing.
use mathlib.Core.Path.{◌≡◌, refl, sym, ◌∙◌, ap, subst}
use Rattle.std.specs.Prelude.{◌≢◌}
use Prim.Native.Nat.{ℕ, ◌+◌, ◌≤◌, ◌<◌}
use native.Mathlib.Nat.{le_refl}
use native.Mathlib.Omega.{arith}
use mathlib.Core.List.{List, [], map}
use lib.ListN.{length, get_or, set, take, drop}
use lib.Seq.{drop-cons, take_all}
use Rattle.rules.specs.declared.Params.{Params}
use Rattle.rules.specs.declared.Answer.{Answer}
use Rattle.rules.specs.declared.Item.{Item}
use Rattle.rules.specs.declared.Reply.{Reply}
use Rattle.rules.specs.declared.Reply.TheVariants.{Accepted}
use Rattle.rules.specs.Tables.{Board}
use Rattle.rules.specs.Requests.{item_requests, lent, lent_answers, queue, queue_of}
use Rattle.rules.specs.Replies.{first_row, queue_rows, reply_of, rows_of}
use Rattle.rules.specs.Calls.{Outcome, answer_of, answers_in, outcome_of, over, write_all}
use Rattle.rules.proofs.Outcomes.{all_answer, all_bytes, all_lent, queue_accepted}
use Rattle.queue_turns.specs.Served.{item_outcome, served_from}
use Rattle.queue_turns.proofs.Served.{map_id, one_served, served_all}
use Rattle.outcomes.specs.Claims.{outcome}
use Rattle.outcomes.proofs.Ends.{refused_by}
use Rattle.queue_head.specs.Heads.{Serves}
use Rattle.queue_head.specs.declared.Head.{Head}

-- an answer is kept as it is
abbrev pub itself : Answer → Answer
itself a = a

module _ (p : Params) (bytes : List ℕ) where
  -- ---- the items

  pub one_answered : (ys : List Item) (k i : ℕ) (d : Item) (b : Board) (os : List Answer) → i < k → k ≤ length ys
      → served_from itself p bytes (drop i (take k ys)) i b os
      ≡ served_from itself p bytes (drop (i + 1) (take k ys)) (i + 1) (item_outcome p bytes b (get_or ys i d)).board (set os i (item_outcome p bytes b (get_or ys i d)).answer)
  one_answered ys k i d b os lt fits = one_served itself p bytes ys k i (get_or ys i d) b os lt (drop-cons ys i d (omega (arith, lt, fits)))

  -- the same, of an item, an answer and a board that are known by equations
  pub next_served : (ys : List Item) (k i : ℕ) (d it : Item) (b b' : Board) (os : List Answer) (a : Answer) → i < k → k ≤ length ys → get_or ys i d ≡ it
      → a ≡ (item_outcome p bytes b it).answer → b' ≡ (item_outcome p bytes b it).board
      → served_from itself p bytes (drop i (take k ys)) i b os ≡ served_from itself p bytes (drop (i + 1) (take k ys)) (i + 1) b' (set os i a)
  next_served ys k i d it b b' os a lt fits e x y = rw (x, y, ← e) (one_answered ys k i d b os lt fits)

  -- ---- the call

  module _ (b : Board) (ys : List Item) (os : List Answer) where
    -- refused, no item is served
    pub all_refused : (e : Reply) → (first_row Accepted (queue_rows p b (length ys) (length os)) ≡ e) × (first_row Accepted (queue_rows p b (length ys) (length os)) ≢ Accepted)
        → (a : Answer) → a ≡ answer_of e [] 0 → outcome a bytes os b ≡ outcome_of p b (queue (queue_of ys bytes os))
    unfolding lent lent_answers reply_of rows_of
    all_refused e h a is = refused_by p b (queue (queue_of ys bytes os)) e h a is

    module _ (z : first_row Accepted (queue_rows p b (length ys) (length os)) ≡ Accepted) (h : Head) (y : Serves p b (length ys) (length os) h) where
      accepted : reply_of p b (queue (queue_of ys bytes os)) ≡ Accepted
      unfolding reply_of rows_of
      accepted = z

      -- let through, all items are served
      pub fold_is : (a : Answer) → a ≡ answer_of Accepted [] 0 → (b' : Board) (os' : List Answer) → (b', os') ≡ served_from itself p bytes (take h.items ys) 0 b os
          → outcome a bytes os' b' ≡ outcome_of p b (queue (queue_of ys bytes os))
      unfolding outcome_of
      fold_is a a-is b' os' fold =
          let taken : take h.items ys ≡ ys = take_all h.items ys (subst (λ (k : ℕ). length ys ≤ k) (sym y.counted) (le_refl (length ys))) in
          let qs = item_requests p bytes ys in
          let l = queue_of ys bytes os in
          let done : ◌≡◌ {A = Board × List Answer} (b', os') ((write_all p b qs l).left, over (map itself (answers_in (write_all p b qs l).parts)) os) =
          fold ∙ ap (λ (its : List Item). served_from itself p bytes its 0 b os) taken ∙ served_all itself p bytes l ys b os y.room in
          (λ j. outcome (a-is j) bytes (done j).1 (done j).0)
          ∙ rw (queue_accepted p b l accepted, all_answer p b qs l, all_bytes p b qs l, all_lent p b qs l)
          (ap (λ (x : List Answer). outcome (answer_of Accepted [] 0) bytes (over x os) (write_all p b qs l).left) (map_id (answers_in (write_all p b qs l).parts)))
