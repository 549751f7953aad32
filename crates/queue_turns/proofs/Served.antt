-- The loop's way through a queue comes to what its work says: each place is set once, and those past the last item stay. A loop goes on by `one_served` and
-- ends by `none_left`; `served_all` is the whole queue.
-- Assumes nothing.
use mathlib.Core.Path.{◌≡◌, refl, sym, ap, ap₂, ◌∙◌}
use mathlib.Core.Logic.{◌⊎◌, inl, inr}
use mathlib.Core.Bool.{false}
use mathlib.Core.List.{List, [], ◌∷◌, ◌++◌, append_assoc, map, map-append}
use Prim.Native.Nat.{ℕ, zero, suc, ◌+◌, ◌<◌, ◌≤◌}
use native.Mathlib.Nat.{add-zero, zero-add}
use native.Mathlib.Omega.{arith}
use lib.ListN.{drop, drop_of_length-le, length, length-set, set, take, take-append-drop}
use Rattle.rules.specs.declared.Params.{Params}
use Rattle.rules.specs.declared.Answer.{Answer}
use Rattle.rules.specs.declared.Item.{Item}
use Rattle.rules.specs.declared.Reply.TheVariants.{Accepted}
use Rattle.rules.specs.Tables.{Board}
use Rattle.rules.specs.Requests.{Queue, Request, item_request, item_requests, write}
use Rattle.rules.specs.Replies.{is_accepted, reply_of}
use Rattle.rules.specs.Calls.{Part, Work, answers_in, outcome_of, over, refuses, single, work_of, write_all, write_work}
use Rattle.rules.proofs.Outcomes.{reply_cases, work_accepted, work_refused}
use Rattle.queue_turns.specs.Served.{item_outcome, served_from}

-- ---- one place set

module _ {A : Type 0} where
  -- the front up to a place that is set is the one before it, with what it is set to
  pub take_set : (l : List A) (i : ℕ) (a : A) → i < length l → take (suc i) (set l i a) ≡ take i l ++ (a ∷ [])
  take_set [] i a h = absurd (omega arith)
  take_set (x ∷ l) zero a h = refl
  take_set (x ∷ l) (suc i) a h = ap (λ (r : List A). x ∷ r) (take_set l i a (omega arith))

  -- and what stands after it stays
  pub drop_set : (l : List A) (i j : ℕ) (a : A) → i < j → drop j (set l i a) ≡ drop j l
  drop_set l i zero a h = absurd (omega arith)
  drop_set [] i (suc j) a h = refl
  drop_set (x ∷ l) zero (suc j) a h = refl
  drop_set (x ∷ l) (suc i) (suc j) a h = drop_set l i j a (omega arith)

  -- one more of the first, over a list that has it
  pub over_at : (l : List A) (i : ℕ) (a : A) (more : List A) → i < length l → a ∷ over more (drop (suc i) l) ≡ over (a ∷ more) (drop i l)
  unfolding over
  over_at [] i a more h = absurd (omega arith)
  over_at (x ∷ l) zero a more h = refl
  over_at (x ∷ l) (suc i) a more h = over_at l i a more (omega arith)

  -- kept as it is
  pub map_id : (l : List A) → map (λ (a : A). a) l ≡ l
  map_id [] = refl
  map_id (x ∷ l) = ap (λ (r : List A). x ∷ r) (map_id l)

-- ---- the first n of a list

module _ {ℓ} {A : Type ℓ} where
  -- what is left of them from the i-th on
  pub drop_take : (l : List A) (n i : ℕ) (a : A) → i < n → drop i l ≡ a ∷ drop (suc i) l → drop i (take n l) ≡ a ∷ drop (suc i) (take n l)
  drop_take l zero i a h e = absurd (omega arith)
  drop_take [] (suc n) zero a h e = e
  drop_take (z ∷ l) (suc n) zero a h e = cc
  drop_take [] (suc n) (suc i) a h e = e
  drop_take (z ∷ l) (suc n) (suc i) a h e = drop_take l n i a (omega arith) e

  pub take_short : (l : List A) (n : ℕ) → length (take n l) ≤ n
  take_short l zero = omega arith
  take_short [] (suc n) = omega arith
  take_short (z ∷ l) (suc n) = omega (arith, take_short l n)

-- ---- the work of a queue

-- a write has one part, with its answer
write_answers : (p : Params) (b : Board) (q : Request) → answers_in (write_work p b q).parts ≡ (outcome_of p b (write q)).answer ∷ []
unfolding write_work outcome_of work_of answers_in single refuses
write_answers p b q = go (reply_cases (reply_of p b (write q)))
  where
    go : (reply_of p b (write q) ≡ Accepted) ⊎ (is_accepted (reply_of p b (write q)) ≡ false) → answers_in (write_work p b q).parts ≡ (write_work p b q).answer ∷ []
    go (inl e) = unfold write_work answers_in single in rw (work_accepted p b (write q) _ _ _ _ e)
    go (inr e) = unfold write_work answers_in single refuses in rw (work_refused p b (write q) _ _ _ _ e)

-- the answers of a queue's parts, an item more
pub answers_more : (p : Params) (b : Board) (q : Request) (qs : List Request) (l : Queue)
    → answers_in (write_all p b (q ∷ qs) l).parts ≡ (outcome_of p b (write q)).answer ∷ answers_in (write_all p (outcome_of p b (write q)).board qs l).parts
unfolding write_all outcome_of work_of
answers_more p b q qs l =
    let two : answers_in ((write_work p b q).parts ++ (write_all p (write_work p b q).left qs l).parts) ≡ answers_in (write_work p b q).parts ++ answers_in
    (write_all p (write_work p b q).left qs l).parts =
    unfold answers_in in map-append (λ (x : Part). x.answer) (write_work p b q).parts (write_all p (write_work p b q).left qs l).parts in
    two ∙ ap (λ (x : List Answer). x ++ answers_in (write_all p (write_work p b q).left qs l).parts) (write_answers p b q)

-- ---- one turn of the loop

module _ {A : Type 0} (kept : Answer → A) (p : Params) (bytes : List ℕ) where
  -- one of the first n is served, and then none is left
  pub one_served : (items : List Item) (n i : ℕ) (it : Item) (b : Board) (list : List A) → i < n → drop i items ≡ it ∷ drop (suc i) items
      → served_from kept p bytes (drop i (take n items)) i b list
      ≡ served_from kept p bytes (drop (i + 1) (take n items)) (i + 1) (item_outcome p bytes b it).board (set list i (kept (item_outcome p bytes b it).answer))
  unfolding served_from
  one_served items n i it b list h e =
      let one_more : suc i ≡ i + 1 = omega arith in
      ap (λ (its : List Item). served_from kept p bytes its i b list) (drop_take items n i it h e ∙ ap (λ (k : ℕ). it ∷ drop k (take n items)) one_more)

  pub none_left : (items : List Item) (n i : ℕ) (b : Board) (list : List A) → n ≤ i
      → ◌≡◌ {A = Board × List A} (b, list) (served_from kept p bytes (drop i (take n items)) i b list)
  unfolding served_from
  none_left items n i b list h =
      ap (λ (its : List Item). served_from kept p bytes its i b list) (sym (drop_of_length-le (take n items) {i = i} (omega (arith, take_short items n, h))))

-- ---- the items from the i-th on

module _ {A : Type 0} (kept : Answer → A) (p : Params) (bytes : List ℕ) (l : Queue) where
  -- the work of the items
  abbrev work_from : Board → List Item → Work
  work_from b items = write_all p b (item_requests p bytes items) l

  served_board : (items : List Item) (i : ℕ) (b : Board) (list : List A) → (served_from kept p bytes items i b list).0 ≡ (work_from b items).left
  unfolding served_from item_requests write_all item_outcome outcome_of work_of
  served_board [] i b list = refl
  served_board (it ∷ items) i b list = served_board items (i + 1) (write_work p b (item_request p bytes it)).left _

  more : (b : Board) (it : Item) (items : List Item)
      → answers_in (work_from b (it ∷ items)).parts ≡ (item_outcome p bytes b it).answer ∷ answers_in (work_from (item_outcome p bytes b it).board items).parts
  unfolding item_requests item_outcome
  more b it items = answers_more p b (item_request p bytes it) (item_requests p bytes items) l

  served_list : (items : List Item) (i : ℕ) (b : Board) (list : List A) → i + length items ≤ length list
      → (served_from kept p bytes items i b list).1 ≡ take i list ++ over (map kept (answers_in (work_from b items).parts)) (drop i list)
  unfolding served_from item_requests
  served_list [] i b list h = unfold write_all answers_in over in sym (take-append-drop i list)
  served_list (it ∷ items) i b list h =
      let a = kept (item_outcome p bytes b it).answer in
      let b' = (item_outcome p bytes b it).board in
      let rest = map kept (answers_in (work_from b' items).parts) in
      let one_more : i + 1 ≡ suc i = omega arith in
      served_list items (i + 1) b' (set list i a) (omega (arith, length-set list i a))
      ∙ ap₂ {C = List A} (λ (s t : List A). s ++ over rest t) (ap (λ (k : ℕ). take k (set list i a)) one_more ∙ take_set list i a (omega arith))
      (drop_set list i (i + 1) a (omega arith) ∙ ap (λ (k : ℕ). drop k list) one_more)
      ∙ append_assoc (take i list) (a ∷ []) (over rest (drop (suc i) list))
      ∙ ap (λ (t : List A). take i list ++ t) (over_at list i a rest (omega arith) ∙ ap (λ (x : List Answer). over (map kept x) (drop i list)) (sym (more b it items)))

  -- the whole queue
  pub served_all : (items : List Item) (b : Board) (list : List A) → length items ≤ length list
      → served_from kept p bytes items 0 b list ≡ ((work_from b items).left, over (map kept (answers_in (work_from b items).parts)) list)
  served_all items b list h =
      ap₂ {C = Board × List A} (λ (x : Board) (y : List A). (x, y)) (served_board items 0 b list) (served_list items 0 b list (omega (arith, h)))
