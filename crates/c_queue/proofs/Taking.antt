-- The turns of a queue from flat lists: after i of them what is left to serve comes to the same as the whole; and how it all ends.
-- Assumes nothing.
use mathlib.Core.Path.{◌≡◌, refl, sym, ap, ap₂, ◌∙◌}
use mathlib.Core.Logic.{◌⊎◌, inl, inr}
use mathlib.Core.Bool.{Bool, true, false, not, ◌||◌, cond, false≢true}
use mathlib.Core.List.{List, [], ◌∷◌, map}
use Prim.Native.Nat.{ℕ, ◌+◌, ◌*◌, ◌/◌, ◌%◌, ◌<◌, ◌≤◌}
use native.Mathlib.Omega.{arith}
use lib.Dec.{eqb}
use lib.ListN.{drop, get_or, length, length-replicate, set, take}
use Rattle.std.specs.Prelude.{◌≢◌}
use Rattle.lists.proofs.Tests.{or_neither, so}
use Rattle.rules.specs.declared.Params.{Params}
use Rattle.rules.specs.declared.Answer.{Answer}
use Rattle.rules.specs.declared.Item.{Item}
use Rattle.rules.specs.declared.Reply.{Reply}
use Rattle.rules.specs.declared.Reply.TheVariants.{Accepted, BadParameter, WrongLength}
use Rattle.rules.specs.Tables.{Board}
use Rattle.rules.specs.Traces.{erases_in, programs_in}
use Rattle.rules.specs.Requests.{Call, item_of, item_request, item_requests, queue, write}
use Rattle.rules.specs.Replies.{bad_parameter, first_row, is_accepted, lent_rows, number_of, queue_rows, reply_of, rows_of}
use Rattle.rules.specs.Calls.{Work, answer_of, answers_in, outcome_of, over, queue_work, work_of, write_all}
use Rattle.rules.proofs.Outcomes.{all_answer, is_refused, queue_accepted}
use Rattle.queue_turns.specs.Served.{item_outcome, served_from}
use Rattle.queue_turns.proofs.Served.{none_left, one_served, served_all}
use Rattle.queue_head.specs.declared.Head.{Head}
use Rattle.queue_head.specs.Heads.{Ready, Serves, flat_reply}
use Rattle.queue_item.specs.Items.{ItemIs}
use Rattle.c_answer.specs.Packed.{packed}
use Rattle.c_answer.proofs.Counts.{few_programs}
use Rattle.c_queue.specs.Flat.{FlatOutcome, TurnAsked, TurnDone, TurnsAsked, flat_call, flat_outcome, flat_queue, items_of, request_at}
use Rattle.c_queue.proofs.Requests.{items_at, items_length}

-- ---- one turn

-- no item programs more pages than have room in its number
pub few_item : (p : Params) (ordered : Bool) (b : Board) (bytes : List ℕ) (it : Item) (a : Answer) (b' : Board) → ItemIs p ordered b bytes it a b' → a.programs < 65536
unfolding item_outcome
few_item p ordered b bytes it a b' h = rw h.answered (few_programs p b (write (item_request p bytes it)))

-- an item of the list, its answer packed into its place
pub turn_done : (p : Params) (ordered : Bool) (b : Board) (requests bytes answers : List ℕ) (i : ℕ) (a : Answer) (b' : Board)
    → ItemIs p ordered b bytes (item_of (get_or requests (3 * i) 0) (get_or requests (3 * i + 1) 0) (get_or requests (3 * i + 2) 0)) a b'
    → (answers' : List ℕ) → answers' ≡ set answers i (packed a) → TurnDone p ordered b requests bytes answers i b' answers'
unfolding request_at
turn_done p ordered b requests bytes answers i a b' h answers' e =
    record { answered = e ∙ ap (λ (b : Answer). set answers i (packed b)) h.answered; left = h.left; ready = h.ready }

-- ---- the turns

pub take_all {ℓ} : {A : Type ℓ} (l : List A) → take (length l) l ≡ l
take_all [] = refl
take_all {A = A} (z ∷ l) = ap {B = List A} (λ r. z ∷ r) (take_all l)

-- chip, tables and answers keep their lengths
pub record Long (b₀ : Board) (list₀ : List ℕ) (b : Board) (list : List ℕ) : Type 0 where
  pub chip : length b.chip ≡ length b₀.chip
  pub ct : length b.ct ≡ length b₀.ct
  pub bt : length b.bt ≡ length b₀.bt
  pub fst : length b.fst ≡ length b₀.fst
  pub bst : length b.bst ≡ length b₀.bst
  pub wear : length b.wear ≡ length b₀.wear
  pub marks : length b.marks ≡ length b₀.marks
  pub stamps : length b.stamps ≡ length b₀.stamps
  pub answers : length list ≡ length list₀

module _ (p : Params) (ordered : Bool) (requests bytes : List ℕ) (n : ℕ) (b₀ : Board) (answers₀ : List ℕ) where
  -- after i turns
  pub record So (i : ℕ) (b : Board) (answers : List ℕ) : Type 0 where
    pub ready : 0 < n → Ready p ordered b
    pub same : served_from packed p bytes (drop i (take n (items_of requests))) i b answers ≡ served_from packed p bytes (take n (items_of requests)) 0 b₀ answers₀

  module _ (a : TurnsAsked p ordered b₀ requests answers₀ n) where
    pub start : So 0 b₀ answers₀
    start = record { ready = a.ready; same = refl }

    pub asked : (i : ℕ) → i < n → (answers : List ℕ) → length answers ≡ length answers₀ → TurnAsked requests answers i
    asked i h answers e = record { asked = omega (arith, a.asked); place = omega (arith, a.places, e) }

    pub next : (i : ℕ) → i < n → (b : Board) (answers : List ℕ) → So i b answers
        → (b' : Board) (answers' : List ℕ) → TurnDone p ordered b requests bytes answers i b' answers' → So (i + 1) b' answers'
    next i h b answers s b' answers' d =
        record {
          ready = λ _. d.ready;
          same =
              ap₂ (λ (y : Board) (l : List ℕ). served_from packed p bytes (drop (i + 1) (take n (items_of requests))) (i + 1) y l) d.left d.answered
              ∙ sym (one_served packed p bytes (items_of requests) n i (request_at requests i) b answers h (items_at requests i (omega (arith, a.asked))))
              ∙ s.same;
        }

    pub done : (i : ℕ) → n ≤ i → (b : Board) (answers : List ℕ) → So i b answers
        → (b, answers) ≡ served_from packed p bytes (take n (items_of requests)) 0 b₀ answers₀
    done i h b answers s = none_left packed p bytes (items_of requests) n i b answers h ∙ s.same

-- ---- the end

module _ (p : Params) (b : Board) (requests bytes answers : List ℕ) where
  pub turns_asked : (h : Head) → Serves p b (length requests / 3) (length answers) h → TurnsAsked p h.ordered b requests answers h.items
  turns_asked h y = record { asked = omega (arith, y.counted); places = omega (arith, y.counted, y.room); ready = λ k. y.ready }

  pub own_word : (r : Reply) → number_of r ≡ packed (answer_of r [] 0)
  unfolding packed answer_of programs_in erases_in
  own_word r = omega arith

  -- as the queue that is lent
  abbrev pub call : Call
  call = queue (flat_queue requests bytes answers)

  -- the reply is the queue's, but for a list that is no multiple of three
  pub same_reply : bad_parameter p || eqb (length requests % 3) 0 ≡ true → flat_reply p b (length requests) (length answers) ≡ reply_of p b call
  unfolding reply_of rows_of flat_reply
  same_reply t = rw (items_length requests, length-replicate (length answers) (answer_of Accepted [] 0)) (go (bad_parameter p) refl (eqb (length requests % 3) 0) refl)
    where
      go : (x : Bool) → bad_parameter p ≡ x → (y : Bool) → eqb (length requests % 3) 0 ≡ y
          → cond (bad_parameter p) BadParameter (cond (not (eqb (length requests % 3) 0)) WrongLength (first_row Accepted (queue_rows p b (length requests / 3) (length answers))))
          ≡ first_row Accepted (queue_rows p b (length requests / 3) (length answers))
      go true e y k = rw e (unfold queue_rows lent_rows first_row in rw e)
      go false e true k = rw (e, k)
      go false e false k = absurd (false≢true (rw (e, k) at t))

  -- and 2 for such a list
  pub wrong_list : bad_parameter p || eqb (length requests % 3) 0 ≡ false → flat_reply p b (length requests) (length answers) ≡ WrongLength
  unfolding flat_reply
  wrong_list t = let k = or_neither (bad_parameter p) t in rw (k.0, k.1)

  abbrev by_work : Work → FlatOutcome
  by_work k = flat_outcome (packed k.answer) (over (map packed (answers_in k.parts)) answers) k.left

  -- ---- refused

  -- the reply as the call's own number
  pub word_is : (e r : Reply) → e ≡ r → (word : ℕ) → word ≡ number_of e → flat_outcome word answers b ≡ flat_outcome (packed (answer_of r [] 0)) answers b
  word_is e r is word w = ap (λ (v : ℕ). flat_outcome v answers b) (w ∙ own_word e ∙ ap (λ (q : Reply). packed (answer_of q [] 0)) is)

  refused : is_accepted (reply_of p b call) ≡ false → flat_outcome (packed (answer_of (reply_of p b call) [] 0)) answers b ≡ by_work (work_of p b call)
  unfolding work_of queue_work over answers_in
  refused out = rw out

  pub refused_done : (e : Reply) → (flat_reply p b (length requests) (length answers) ≡ e) × (flat_reply p b (length requests) (length answers) ≢ Accepted)
      → (word : ℕ) → word ≡ number_of e → flat_outcome word answers b ≡ flat_call p b requests bytes answers
  unfolding flat_call outcome_of
  refused_done e h word w = go (so (bad_parameter p || eqb (length requests % 3) 0))
    where
      go : (bad_parameter p || eqb (length requests % 3) 0 ≡ true) ⊎ (bad_parameter p || eqb (length requests % 3) 0 ≡ false) → flat_outcome word answers b ≡ flat_call p b requests bytes answers
      go (inl t) =
          let out = is_refused (reply_of p b call) (λ (x : reply_of p b call ≡ Accepted). h.1 (same_reply t ∙ x)) in
          unfold flat_call outcome_of in rw t (word_is e (reply_of p b call) (sym h.0 ∙ same_reply t) word w ∙ refused out)
      go (inr t) = unfold flat_call in rw t (word_is e WrongLength (sym h.0 ∙ wrong_list t) word w)

  -- ---- let through

  module _ (z : flat_reply p b (length requests) (length answers) ≡ Accepted) where
    -- then the list is three to a request
    pub three : bad_parameter p || eqb (length requests % 3) 0 ≡ true
    three = go (so (bad_parameter p || eqb (length requests % 3) 0))
      where
        go : (bad_parameter p || eqb (length requests % 3) 0 ≡ true) ⊎ (bad_parameter p || eqb (length requests % 3) 0 ≡ false) → bad_parameter p || eqb (length requests % 3) 0 ≡ true
        go (inl t) = t
        go (inr t) = absurd (omega (arith, ap number_of (sym (wrong_list t) ∙ z)))

    pub accepted_is : reply_of p b call ≡ Accepted
    accepted_is = sym (same_reply three) ∙ z

    module _ (h : Head) (y : Serves p b (length requests / 3) (length answers) h) where
      pub all_items : h.items ≡ length (items_of requests)
      all_items = y.counted ∙ sym (items_length requests)

      pub all_done : (b' : Board) (answers' : List ℕ) → (b', answers') ≡ served_from packed p bytes (take h.items (items_of requests)) 0 b answers
          → (word : ℕ) → word ≡ 0 → flat_outcome word answers' b' ≡ flat_call p b requests bytes answers
      unfolding flat_call outcome_of
      all_done b' answers' fold word w =
          rw (three, queue_accepted p b (flat_queue requests bytes answers) accepted_is, all_answer p b (item_requests p bytes (items_of requests)) (flat_queue requests bytes answers))
          (ap₂ (λ (v : ℕ) (l : Board × List ℕ). flat_outcome v l.1 l.0) (w ∙ own_word Accepted)
          (fold
          ∙ ap (λ (k : ℕ). served_from packed p bytes (take k (items_of requests)) 0 b answers) all_items
          ∙ ap (λ (its : List Item). served_from packed p bytes its 0 b answers) (take_all (items_of requests))
          ∙ served_all packed p bytes (flat_queue requests bytes answers) (items_of requests) b answers (omega (arith, y.room, items_length requests))))

-- two outcomes that a queue from flat lists is claimed to have are one
pub flat_once : (p : Params) (b : Board) (requests bytes answers : List ℕ) (o o' : FlatOutcome)
    → o ≡ flat_call p b requests bytes answers → o' ≡ flat_call p b requests bytes answers → o ≡ o'
flat_once p b requests bytes answers o o' e e' = e ∙ sym e'
