-- The first k operations of a write, and what they leave on chip and wear: k below those that make the room are copies' pages alone, or all of them and the erase
-- without its mark; k behind them are the whole room, and pages of the new frame.
-- Assumes nothing.
use mathlib.Core.Path.{◌≡◌, refl, sym, ap, ◌∙◌}
use mathlib.Core.List.{List, [], ◌∷◌, ◌++◌, append-nil}
use Prim.Native.Nat.{ℕ, suc, ◌+◌, ◌-◌, ◌≤◌, ◌<◌, min}
use native.Mathlib.Omega.{arith}
use lib.ListN.{length, length-append, take}
use lib.Seq.{take_all, take-nil}
use Rattle.lists.proofs.Lists.{take_append}
use Rattle.rules.specs.declared.Params.{Params}
use Rattle.rules.specs.Tables.{Board, board_of, bt_at}
use Rattle.rules.specs.Pages.{block}
use Rattle.rules.specs.Marks.{Marks, marks_of, marks_on, table_of}
use Rattle.rules.specs.Regions.{view}
use Rattle.rules.specs.Traces.{Op, erase, erase_ops, frame_ops, frames_ops, on_chip, on_wear, replay_chip, replay_wear}
use Rattle.rules.specs.Write.{Plan, continues, opens, reclaims, new_frame, next_stamp, plan_block, plan_frame, plan_of, plan_ops, plan_vblock, room_ops, victim_ops, write_ops}
use Rattle.rules.specs.Requests.{Request, request_region}
use Rattle.rules.proofs.Chip.{replay_append}
use Rattle.starts.proofs.Prefixes.{frame_length, take_frame}
use Rattle.write_reclaim.specs.Moves.{marked_frames}
use Rattle.write_room.proofs.Rooms.{copies_are}
use Rattle.write_room.proofs.Worn.{wear_append, frame_wear, frames_wear}
use Rattle.cut_copies.proofs.Turns.{take_least}
use Rattle.cut_write.specs.Cut.{CopiesReady, FirstMade}
use Rattle.cut_write.proofs.Counts.{erases_few, none_continues, none_opens}

-- what is taken of the first of two lists
take_first : (k : ℕ) (xs ys : List Op) → k ≤ length xs → take k (xs ++ ys) ≡ take k xs
take_first k xs ys h = let z : k - length xs ≡ 0 = omega arith in take_append k xs ys ∙ rw z (append-nil (take k xs))

-- pages wear no block
frames_worn : (p : Params) (n to : ℕ) (xs : List (List ℕ)) (wear : List ℕ) (k : ℕ) → replay_wear wear (take k (frames_ops p n to xs)) ≡ wear
unfolding frames_ops
frames_worn p n to [] wear k = rw (take-nil k) (unfold replay_wear in refl)
frames_worn p n to (x ∷ xs) wear k =
    rw (
      take_append k (frame_ops p n to x p.alpha) (frames_ops p n (suc to) xs),
      take_least p n to x k p.alpha,
      wear_append wear (frame_ops p n to x (min k p.alpha)),
      frame_wear p n to x wear (min k p.alpha),
    )
    (frames_worn p n (suc to) xs wear (k - length (frame_ops p n to x p.alpha)))

-- ---- the operations of a reclaim, cut short

-- the first of what erases a block is the erase
first_erase : (p : Params) (wear : List ℕ) (o : ℕ) → take 1 (erase_ops p wear o) ≡ erase o ∷ []
unfolding erase_ops
first_erase p wear o = refl

module _ (p : Params) (chip wear : List ℕ) (o n : ℕ) (xs : List (List ℕ)) (room k : ℕ) (h : k < room) (all : room ≡ length (frames_ops p n 0 xs ++ erase_ops p wear o))
    (chip₁ : List ℕ) (c : chip₁ ≡ replay_chip p chip (take k (frames_ops p n 0 xs))) where
  abbrev cs : List Op
  cs = frames_ops p n 0 xs

  abbrev es : List Op
  es = erase_ops p wear o

  long : room ≡ length cs + length es
  long = all ∙ length-append cs es

  pub only_copies : length es ≤ room - k → FirstMade p chip wear (cs ++ es) k chip₁ wear
  only_copies few =
      let t : take k (cs ++ es) ≡ take k cs = take_first k cs es (omega (arith, long)) in
      record { chip_is = c ∙ rw t; wear_is = sym (ap (replay_wear wear) t ∙ frames_worn p n 0 xs wear k) }

  pub with_erase : room - k < length es → (chip₂ wear₂ : List ℕ) → chip₂ ≡ on_chip p chip₁ (erase o) → wear₂ ≡ on_wear wear (erase o) → FirstMade p chip wear (cs ++ es) k chip₂ wear₂
  with_erase few chip₂ wear₂ x y =
      let two = erases_few p wear o in
      let copied : take k cs ≡ cs = take_all k cs (omega (arith, long, two)) in
      let one : k - length cs ≡ 1 = omega (arith, long, two) in
      let t : take k (cs ++ es) ≡ cs ++ (erase o ∷ []) = take_append k cs es ∙ rw (copied, one, first_erase p wear o) in
      let now-chip : on_chip p chip₁ (erase o) ≡ replay_chip p chip (cs ++ (erase o ∷ [])) = rw (replay_append p chip cs (erase o ∷ []), c, copied) (unfold replay_chip in refl) in
      let now-wear : replay_wear wear (cs ++ (erase o ∷ [])) ≡ on_wear wear (erase o) = wear_append wear cs (erase o ∷ []) ∙ rw (frames_wear p n 0 xs wear) (unfold replay_wear in refl) in
      record { chip_is = x ∙ now-chip ∙ sym (ap (replay_chip p chip) t); wear_is = y ∙ sym (ap (replay_wear wear) t ∙ now-wear) }

-- ---- the operations of a write

module _ (p : Params) (b : Board) (q : Request) (pl : Plan) (ep : pl ≡ plan_of p (view p b (request_region p q))) where
  abbrev r : ℕ
  r = request_region p q

  -- the first m pages of the new frame
  abbrev pub pages : ℕ → List Op
  pages m = frame_ops p (plan_block p b r pl) (plan_frame p (view p b r) pl) (new_frame p (view p b r) q (next_stamp b r) (plan_vblock pl)) m

  ops_are : write_ops p b q ≡ room_ops p b r pl ++ pages p.alpha
  unfolding write_ops
  ops_are = ap (plan_ops p b r q) (sym ep) ∙ unfold plan_ops in refl

  pub ops_length : length (write_ops p b q) ≡ length (room_ops p b r pl) + p.alpha
  ops_length = ap length ops_are ∙ length-append (room_ops p b r pl) (pages p.alpha) ∙ ap (λ (n : ℕ). length (room_ops p b r pl) + n) (frame_length p _ _ _ p.alpha)

  pub ops_room : (k : ℕ) → k < length (room_ops p b r pl) → take k (write_ops p b q) ≡ take k (room_ops p b r pl)
  ops_room k h = rw ops_are (take_first k (room_ops p b r pl) (pages p.alpha) (omega arith))

  pub ops_pages : (k : ℕ) → length (room_ops p b r pl) ≤ k → k ≤ length (room_ops p b r pl) + p.alpha
      → take k (write_ops p b q) ≡ room_ops p b r pl ++ pages (k - length (room_ops p b r pl))
  ops_pages k h few =
      rw (ops_are, take_append k (room_ops p b r pl) (pages p.alpha), take_all k (room_ops p b r pl) h)
      (ap (λ (l : List Op). room_ops p b r pl ++ l) (take_frame p _ _ _ p.alpha (k - length (room_ops p b r pl)) (omega arith)))

  pub pages_worn : (wear : List ℕ) (m : ℕ) → replay_wear wear (room_ops p b r pl ++ pages m) ≡ replay_wear wear (room_ops p b r pl)
  pages_worn wear m = wear_append wear (room_ops p b r pl) (pages m) ∙ frame_wear p _ _ _ _ m

-- ---- the room, by the plan

module _ (p : Params) (b : Board) (r room k : ℕ) (h : k < room) where
  pub none_first_continues : (v f : ℕ) → room ≡ length (room_ops p b r (continues v f)) → FirstMade p b.chip b.wear (room_ops p b r (continues v f)) k b.chip b.wear
  none_first_continues v f e = absurd (omega (arith, e, none_continues p b r v f))

  pub none_first_opens : (v : ℕ) → room ≡ length (room_ops p b r (opens v)) → FirstMade p b.chip b.wear (room_ops p b r (opens v)) k b.chip b.wear
  none_first_opens v e = absurd (omega (arith, e, none_opens p b r v))

-- the copies of the marked frames are those of the plan
module _ (p : Params) (chip ct bt fst bst wear marks stamps : List ℕ) (r v n : ℕ) (a : CopiesReady p chip bt wear marks r v n) (o : ℕ) (eo : o ≡ bt_at p bt r v)
    (en : n ≡ plan_block p (board_of chip ct bt fst bst wear marks stamps) r (reclaims v)) where
  abbrev b : Board
  b = board_of chip ct bt fst bst wear marks stamps

  abbrev reclaim_ops : Marks → List Op
  reclaim_ops m = frames_ops p n 0 (marked_frames p (block p chip o) (m r v)) ++ erase_ops p wear o

  room_is : room_ops p b r (reclaims v) ≡ reclaim_ops (marks_on p b)
  unfolding room_ops victim_ops
  room_is = rw (eo, en, copies_are p a.words.fine b r v a.words.vblock a.between.from)

  pub copies_first : (room k : ℕ) → marks ≡ marks_of p b → room ≡ length (room_ops p b r (reclaims v)) → (chip₁ wear₁ : List ℕ)
      → ((m : Marks) → marks ≡ table_of p m → room ≡ length (reclaim_ops m) → FirstMade p chip wear (reclaim_ops m) k chip₁ wear₁)
      → FirstMade p chip wear (room_ops p b r (reclaims v)) k chip₁ wear₁
  copies_first room k e er chip₁ wear₁ is = rw room_is (is (marks_on p b) e (er ∙ ap length room_is))
