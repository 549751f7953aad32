-- The loop's way through a queue with a budget comes to what the rules say of its cut: the chip is the first operations of all its items, the tables are lost, and the finished items
-- are answered. By the items: one that leaves something of the budget is finished, and the first that does not is cut.
-- Assumes nothing.
use mathlib.Core.Path.{◌≡◌, refl, sym, ap, ap₂, ◌∙◌}
use mathlib.Core.Logic.{◌⊎◌, inl, inr}
use mathlib.Core.Bool.{Bool, true, false, cond}
use mathlib.Core.List.{List, [], ◌∷◌, ◌++◌, append_assoc, append-nil, map}
use Prim.Native.Nat.{ℕ, zero, suc, ◌+◌, ◌-◌, ◌<◌, ◌≤◌}
use native.Mathlib.Omega.{arith}
use native.Mathlib.Decide.{dec_lt}
use lib.Dec.{leb}
use lib.ListN.{drop, drop_of_length-le, length, length-append, length-set, set, take, take-append-drop}
use lib.Seq.{take_all}
use borrow.Author.Tests.{le-leb, leb-false, leb-true, le-ltb, lt-leb, lt-ltb, ne_eqb}
use Rattle.lists.proofs.Lists.{take_append}
use Rattle.rules.specs.declared.Params.{Params}
use Rattle.rules.specs.declared.Answer.{Answer}
use Rattle.rules.specs.declared.Item.{Item}
use Rattle.rules.specs.declared.Reply.TheVariants.{Accepted}
use Rattle.rules.specs.Tables.{Board}
use Rattle.rules.specs.Traces.{Op, replay_chip, replay_wear}
use Rattle.rules.specs.Regions.{looks_at}
use Rattle.rules.specs.Requests.{Queue, Request, item_request, item_requests, lent, request_cluster, write}
use Rattle.rules.specs.Replies.{is_accepted, reply_of}
use Rattle.rules.specs.Write.{write_ops, written, written_by}
use Rattle.rules.specs.Calls.{Outcome, Part, Work, answer_of, answers_in, ops_of, over, refuses, single, work_of, write_all, write_work}
use Rattle.rules.specs.Cuts.{cut_board, finished, has_budget, limited, step_outcome}
use Rattle.rules.proofs.Chip.{replay_append}
use Rattle.rules.proofs.Erases.{wear_append}
use Rattle.rules.proofs.Outcomes.{call_refused, reply_cases, work_refused, write_accepted}
use Rattle.outcomes.proofs.Cuts.{step_cut, step_refused, step_whole, write_work_lem}
use Rattle.queue_turns.specs.Limited.{Stage, item_step, left_after, turn_of, turns_from}
use Rattle.queue_turns.proofs.Served.{drop_set, drop_take, over_at, take_set, take_short}

-- ---- one write of the queue

-- its one part, the board that it leaves, and its outcome with k left
pub record One (p : Params) (b : Board) (q : Request) : Type 0 where
  pub part : Part
  pub parts : (write_work p b q).parts ≡ part ∷ []
  pub chip : (write_work p b q).left.chip ≡ replay_chip p b.chip part.ops
  pub wear : (write_work p b q).left.wear ≡ replay_wear b.wear part.ops
  pub goes : (k : ℕ) → length part.ops < k → ((step_outcome p b (limited k (write q))).board ≡ (write_work p b q).left) × ((step_outcome p b (limited k (write q))).answer ≡ part.answer)
  pub cut : (k : ℕ) → 0 < k → k ≤ length part.ops → (step_outcome p b (limited k (write q))).board ≡ cut_board p b (take k part.ops)

write_refused : (p : Params) (b : Board) (q : Request) → is_accepted (reply_of p b (write q)) ≡ false
    → write_work p b q ≡ single (write q) (answer_of (reply_of p b (write q)) [] 0) q.bytes [] b
unfolding write_work refuses lent
write_refused p b q e = work_refused p b (write q) _ _ _ _ e

pub none_made : (p : Params) (b : Board) (q : Request) → is_accepted (reply_of p b (write q)) ≡ false → length (ops_of (work_of p b (write q)).parts) ≡ 0
unfolding work_of ops_of single
none_made p b q e = rw (write_refused p b q e)

pub one : (p : Params) (b : Board) (q : Request) → One p b q
unfolding replay_chip replay_wear
one p b q = go (reply_cases (reply_of p b (write q)))
  where
    go : (reply_of p b (write q) ≡ Accepted) ⊎ (is_accepted (reply_of p b (write q)) ≡ false) → One p b q
    go (inl e) =
        let w = write_work_lem p b q e in
        let o = write_accepted p b q e in
        let has : has_budget (write q) ≡ true = unfold has_budget in refl in
        let l : (write_work p b q).left ≡ written p b q = unfold work_of single in ap (λ (x : Work). x.left) w in
        record {
          part = record { asks = write q; answer = answer_of Accepted (write_ops p b q) (looks_at p b (request_cluster p q)); bytes = q.bytes; ops = write_ops p b q };
          parts = unfold work_of single in ap (λ (x : Work). x.parts) w;
          chip = rw l (unfold written written_by write_ops in refl);
          wear = rw l (unfold written written_by write_ops in refl);
          goes =
              λ k h.
              let same = step_whole p b k (write q) _ _ _ _ w h in
              (ap (λ (x : Outcome). x.board) (same ∙ o) ∙ sym l, ap (λ (x : Outcome). x.answer) (same ∙ o));
          cut = λ k h few. ap (λ (x : Outcome). x.board) (step_cut p b k (write q) _ _ _ _ w has few);
        }
    go (inr e) =
        let w = write_refused p b q e in
        let o = call_refused p b (write q) e in
        let l : (write_work p b q).left ≡ b = unfold single in ap (λ (x : Work). x.left) w in
        let r : (write_work p b q).parts ≡ record { asks = write q; answer = answer_of (reply_of p b (write q)) [] 0; bytes = q.bytes; ops = [] } ∷ [] = unfold single in ap (λ (x : Work). x.parts) w in
        record {
          part = record { asks = write q; answer = answer_of (reply_of p b (write q)) [] 0; bytes = q.bytes; ops = [] };
          parts = r;
          chip = ap (λ (x : Board). x.chip) l;
          wear = ap (λ (x : Board). x.wear) l;
          goes =
              λ k h.
              let same = step_refused p b k (write q) e in
              (ap (λ (x : Outcome). x.board) (same ∙ o) ∙ sym l, ap (λ (x : Outcome). x.answer) (same ∙ o));
          cut = λ k h few. absurd (omega arith);
        }

-- ---- one turn of the loop

module _ {A : Type 0} (kept : Answer → A) (p : Params) (bytes : List ℕ) where
  -- one of the first n is served, and then none is left
  pub one_taken : (items : List Item) (n i : ℕ) (it : Item) (s : Stage A) → i < n → drop i items ≡ it ∷ drop (suc i) items
      → turns_from kept p bytes (drop i (take n items)) i s ≡ turns_from kept p bytes (drop (i + 1) (take n items)) (i + 1) (turn_of kept p bytes it i s)
  unfolding turns_from
  one_taken items n i it s h e =
      let one_more : suc i ≡ i + 1 = omega arith in
      ap (λ (its : List Item). turns_from kept p bytes its i s) (drop_take items n i it h e ∙ ap (λ (k : ℕ). it ∷ drop k (take n items)) one_more)

  pub none_taken : (items : List Item) (n i : ℕ) (s : Stage A) → n ≤ i → s ≡ turns_from kept p bytes (drop i (take n items)) i s
  unfolding turns_from
  none_taken items n i s h =
      ap (λ (its : List Item). turns_from kept p bytes its i s) (sym (drop_of_length-le (take n items) {i = i} (omega (arith, take_short items n, h))))

-- ---- the queue

-- a cut behind the first operations of a queue is one from the board that they leave
cut_later : (p : Params) (b b₁ : Board) (xs ys : List Op) → b₁.chip ≡ replay_chip p b.chip xs → b₁.wear ≡ replay_wear b.wear xs → cut_board p b₁ ys ≡ cut_board p b (xs ++ ys)
unfolding cut_board
cut_later p b b₁ xs ys e w = rw (e, w, replay_append p b.chip xs ys, wear_append b.wear xs ys)

module _ {A : Type 0} (kept : Answer → A) (p : Params) (bytes : List ℕ) (l : Queue) where
  abbrev work_from : Board → List Item → Work
  work_from b items = write_all p b (item_requests p bytes items) l

  abbrev ops_from : Board → List Item → List Op
  ops_from b items = ops_of (work_from b items).parts

  abbrev stage : Board → List A → ℕ → Stage A
  stage b list k = record { board = b; list = list; left = k }

  -- nothing is done once nothing is left
  spent : (items : List Item) (i : ℕ) (b : Board) (list : List A) → turns_from kept p bytes items i (stage b list 0) ≡ stage b list 0
  unfolding turns_from turn_of
  spent [] i b list = refl
  spent (it ∷ items) i b list = spent items (i + 1) b list

  -- what the turns leave: the board, cut or not, and the answers of the finished items
  abbrev left_board : Board → List Item → ℕ → Board
  left_board b items k = cond (leb k (length (ops_from b items))) (cut_board p b (take k (ops_from b items))) (work_from b items).left

  abbrev left_list : Board → List Item → ℕ → List A → ℕ → List A
  left_list b items i list k = take i list ++ over (map kept (answers_in (finished k (work_from b items).parts))) (drop i list)

  abbrev Comes : List Item → ℕ → Board → List A → ℕ → Type 0
  Comes items i b list k = turns_from kept p bytes items i (stage b list k) ≡ stage (left_board b items k) (left_list b items i list k) (k - length (ops_from b items))

  module _ (b : Board) (it : Item) (items : List Item) (i : ℕ) (list : List A) (k : ℕ) (some : 0 < k) (room : i < length list) where
    abbrev q : Request
    q = item_request p bytes it

    abbrev o : One p b q
    o = one p b q

    abbrev b₁ : Board
    b₁ = (write_work p b q).left

    abbrev xs : List Op
    xs = o.part.ops

    abbrev a : A
    a = kept o.part.answer

    parts_are : (work_from b (it ∷ items)).parts ≡ o.part ∷ (work_from b₁ items).parts
    unfolding item_requests write_all
    parts_are = ap (λ (ps : List Part). ps ++ (work_from b₁ items).parts) o.parts

    ops_are : ops_from b (it ∷ items) ≡ xs ++ ops_from b₁ items
    unfolding ops_of
    ops_are = ap ops_of parts_are

    made_is : length (ops_of (work_of p b (write q)).parts) ≡ length xs
    unfolding work_of ops_of
    made_is = rw (o.parts, append-nil xs)

    all : length (ops_from b (it ∷ items)) ≡ length xs + length (ops_from b₁ items)
    all = ap (λ (ops : List Op). length ops) ops_are ∙ length-append xs (ops_from b₁ items)

    left_is_lem : left_after p bytes b k it ≡ k - length xs
    unfolding left_after
    left_is_lem = rw made_is

    first : take k (ops_from b (it ∷ items)) ≡ take k xs ++ take (k - length xs) (ops_from b₁ items)
    first = ap (take k) ops_are ∙ take_append k xs (ops_from b₁ items)

    -- one that leaves something is finished
    module _ (h : length xs < k) where
      turn_goes : turn_of kept p bytes it i (stage b list k) ≡ stage b₁ (set list i a) (k - length xs)
      unfolding turn_of item_step
      turn_goes =
          let w = o.goes k h in
          rw (ne_eqb k 0 (λ e. omega arith), left_is_lem, ne_eqb (k - length xs) 0 (λ e. omega arith), w.0, w.1)

      board_goes : left_board b₁ items (k - length xs) ≡ left_board b (it ∷ items) k
      board_goes = go (leb (k - length xs) (length (ops_from b₁ items))) refl
        where
          go : (t : Bool) → leb (k - length xs) (length (ops_from b₁ items)) ≡ t → left_board b₁ items (k - length xs) ≡ left_board b (it ∷ items) k
          go true e =
              let few = leb-true (k - length xs) (length (ops_from b₁ items)) e in
              rw (e, le-leb k (length (ops_from b (it ∷ items))) (omega (arith, all)), first, take_all k xs (omega arith))
              (cut_later p b b₁ xs (take (k - length xs) (ops_from b₁ items)) o.chip o.wear)
          go false e =
              let many = leb-false (k - length xs) (length (ops_from b₁ items)) e in
              rw (e, lt-leb k (length (ops_from b (it ∷ items))) (omega (arith, all))) (unfold item_requests write_all in refl)

      finished_goes : finished k (work_from b (it ∷ items)).parts ≡ o.part ∷ finished (k - length xs) (work_from b₁ items).parts
      unfolding finished
      finished_goes = rw (parts_are, lt-ltb (length xs) k h)

      list_goes : left_list b₁ items (i + 1) (set list i a) (k - length xs) ≡ left_list b (it ∷ items) i list k
      unfolding answers_in
      list_goes =
          let rest = map kept (answers_in (finished (k - length xs) (work_from b₁ items).parts)) in
          let one_more : i + 1 ≡ suc i = omega arith in
          ap₂ {C = List A} (λ (s t : List A). s ++ over rest t) (ap (λ (j : ℕ). take j (set list i a)) one_more ∙ take_set list i a room)
          (drop_set list i (i + 1) a (omega arith) ∙ ap (λ (j : ℕ). drop j list) one_more)
          ∙ append_assoc (take i list) (a ∷ []) (over rest (drop (suc i) list))
          ∙ ap (λ (t : List A). take i list ++ t) (over_at list i a rest room)
          ∙ ap (λ (ps : List Part). take i list ++ over (map kept (answers_in ps)) (drop i list)) (sym finished_goes)

      finishes : Comes items (i + 1) b₁ (set list i a) (k - length xs) → Comes (it ∷ items) i b list k
      unfolding turns_from
      finishes below =
          let d : k - length xs - length (ops_from b₁ items) ≡ k - length (ops_from b (it ∷ items)) = omega (arith, all) in
          ap (turns_from kept p bytes items (i + 1)) turn_goes ∙ below ∙ rw (board_goes, list_goes, d)

    -- and one that does not is cut
    module _ (h : k ≤ length xs) where
      turn_cuts : turn_of kept p bytes it i (stage b list k) ≡ stage (cut_board p b (take k xs)) list 0
      unfolding turn_of item_step
      turn_cuts =
          let z : k - length xs ≡ 0 = omega arith in
          rw (ne_eqb k 0 (λ e. omega arith), left_is_lem, z, o.cut k some h)

      cuts : Comes (it ∷ items) i b list k
      unfolding turns_from finished answers_in over
      cuts =
          let z : k - length xs ≡ 0 = omega arith in
          let d : k - length (ops_from b (it ∷ items)) ≡ 0 = omega (arith, all) in
          ap (turns_from kept p bytes items (i + 1)) turn_cuts ∙ spent items (i + 1) (cut_board p b (take k xs)) list
          ∙ rw (le-leb k (length (ops_from b (it ∷ items))) (omega (arith, all)), first, z, append-nil, d, parts_are, le-ltb (length xs) k h, take-append-drop)

    pub one_more : (0 < k - length xs → Comes items (i + 1) b₁ (set list i a) (k - length xs)) → Comes (it ∷ items) i b list k
    one_more below = go (dec_lt (length xs) k)
      where
        go : Dec (length xs < k) → Comes (it ∷ items) i b list k
        go (yes h) = finishes h (below (omega arith))
        go (no h) = cuts (omega arith)

  -- none
  none : (i : ℕ) (b : Board) (list : List A) (k : ℕ) → 0 < k → Comes [] i b list k
  unfolding turns_from item_requests write_all ops_of finished answers_in over
  none i b list k some = let z : k - 0 ≡ k = omega arith in rw (lt-leb k 0 some, take-append-drop, z)

  -- all of them
  pub turns_come : (items : List Item) (i : ℕ) (b : Board) (list : List A) (k : ℕ) → 0 < k → i + length items ≤ length list → Comes items i b list k
  unfolding turns_from
  turns_come [] i b list k some room = none i b list k some
  turns_come (it ∷ items) i b list k some room =
      one_more b it items i list k some (omega arith) (λ h. turns_come items (i + 1) _ _ _ h (omega (arith, length-set list i (kept (one p b (item_request p bytes it)).part.answer))))

  -- ---- the whole queue

  -- with nothing left the first k operations are made; with something left all of them, and the queue is as without a budget
  pub record Ends (b : Board) (items : List Item) (list : List A) (k : ℕ) (s : Stage A) : Type 0 where
    pub answers : s.list ≡ over (map kept (answers_in (finished k (work_from b items).parts))) list
    pub few : s.left ≡ 0 → k ≤ length (ops_from b items)
    pub chip : s.left ≡ 0 → s.board.chip ≡ replay_chip p b.chip (take k (ops_from b items))
    pub wear : s.left ≡ 0 → s.board.wear ≡ replay_wear b.wear (take k (ops_from b items))
    pub many : (s.left ≡ 0 → ⊥) → length (ops_from b items) < k
    pub board : (s.left ≡ 0 → ⊥) → s.board ≡ (work_from b items).left

  none_finished : (xs : List Part) → finished 0 xs ≡ []
  unfolding finished
  none_finished [] = refl
  none_finished (x ∷ xs) = rw (le-ltb (length x.ops) 0 (omega arith))

  pub turns_end : (items : List Item) (b : Board) (list : List A) (k : ℕ) → length items ≤ length list → Ends b items list k (turns_from kept p bytes items 0 (stage b list k))
  turns_end items b list zero room =
      rw (spent items 0 b list)
      (record {
        answers = unfold answers_in over in rw (none_finished (work_from b items).parts);
        few = λ e. omega arith;
        chip = λ e. unfold replay_chip in refl;
        wear = λ e. unfold replay_wear in refl;
        many = λ ne. absurd (ne refl);
        board = λ ne. absurd (ne refl);
      })
  turns_end items b list (suc k) room = rw (turns_come items 0 b list (suc k) (omega arith) (omega (arith, room))) (ended items b list (suc k))
    where
      ended : (items : List Item) (b : Board) (list : List A) (k : ℕ) → Ends b items list k (stage (left_board b items k) (left_list b items 0 list k) (k - length (ops_from b items)))
      ended items b list k =
          record {
            answers = refl;
            few = λ e. omega arith;
            chip = λ e. rw (le-leb k (length (ops_from b items)) (omega arith)) (unfold cut_board in refl);
            wear = λ e. rw (le-leb k (length (ops_from b items)) (omega arith)) (unfold cut_board in refl);
            many = λ ne. less ne;
            board = λ ne. rw (lt-leb k (length (ops_from b items)) (less ne));
          }
        where
          less : (k - length (ops_from b items) ≡ 0 → ⊥) → length (ops_from b items) < k
          less ne = go (dec_lt (length (ops_from b items)) k)
            where
              go : Dec (length (ops_from b items) < k) → length (ops_from b items) < k
              go (yes h) = h
              go (no h) = absurd (ne (omega arith))
