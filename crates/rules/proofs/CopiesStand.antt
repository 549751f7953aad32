-- A reclaim never erases a frame before its copy stands. The copies are programs of the free block alone, so that the victim stays as it is until the last of
-- them is made; then all copies stand, the erase is of another block, and the pages of the new frame lie behind them.
-- Assumes nothing.
use mathlib.Core.Path.{◌≡◌, refl, sym, ap, ◌∙◌}
use mathlib.Core.Logic.{◌⊎◌, inl, inr}
use Prim.Native.Nat.{ℕ, zero, suc, ◌+◌, ◌-◌, ◌*◌, ◌≤◌, ◌<◌}
use native.Mathlib.Nat.{mod-lt}
use native.Mathlib.Omega.{arith}
use native.Mathlib.Decide.{dec_lt}
use mathlib.Core.Bool.{true, false}
use mathlib.Core.List.{List, [], ◌∷◌, ◌++◌, append_assoc}
use lib.ListN.{length, get_or, take}
use lib.Seq.{take_all, take-append-add, take-append-le}
use Rattle.lists.proofs.Lists.{take_append}
use Rattle.lists.specs.Below.{join_below}
use Rattle.lists.specs.Parts.{part, put_part}
use Rattle.lists.proofs.Parts.{next, part_length, put_inner, put_length}
use Rattle.lists.proofs.Tests.{so}
use Rattle.rules.specs.declared.Params.{Params}
use Rattle.rules.specs.Parameters.{block_bytes, frame_bytes, frames, page_bytes, pages}
use Rattle.rules.specs.Tables.{Board, bt_at}
use Rattle.rules.specs.Pages.{block, frame, page}
use Rattle.rules.specs.Regions.{View, assigned, valid_frames, view}
use Rattle.rules.specs.Traces.{Op, erase_ops, frame_ops, frames_ops, on_chip, program, replay_chip}
use Rattle.rules.specs.Requests.{Request, request_cluster, request_region}
use Rattle.rules.specs.Write.{copies, victim_ops, free_block, has_room, new_frame, next_stamp, plan_block, plan_erases, plan_frame, plan_of, plan_ops, plan_vblock, reclaims, room_ops, takes_block, write_ops}
use Rattle.rules.specs.Machine.{with_room}
use Rattle.rules.specs.Words.{CopiesStand, PlanListed}
use Rattle.rules.proofs.Admitted.{admitted, stamp_left, write_checks, write_free}
use Rattle.rules.proofs.Chip.{block_other, frame_put, replay_append, run_length}
use Rattle.rules.proofs.Continues.{Makes}
use Rattle.rules.proofs.Isolation.{index_low}
use Rattle.rules.proofs.NewFrames.{host_sheet}
use Rattle.rules.proofs.ReclaimView.{copies_fit, frame_copy, nth_valid, wholes}
use Rattle.rules.proofs.RegionFacts.{Neat, neat}
use Rattle.rules.proofs.Replays.{Wholes, other_frame}
use Rattle.rules.proofs.Sizes.{Sizes}
use Rattle.rules.proofs.TableFacts.{Tables}
use Rattle.rules.proofs.Views.{block_low_lem, body_size, body_some, free_unnamed, has_block}
use Rattle.rules.proofs.WornBlocks.{first_else, wear_out_ran}
use Rattle.rules.proofs.Words.{plan_exactly}
use Rattle.rules.proofs.WritePromise.{makes}

-- ---- programs of one block, from a frame on

-- a program of a whole page of block n, in frame f or a later one
record From (p : Params) (n f : ℕ) (o : Op) : Type 0 where
  g : ℕ
  j : ℕ
  x : List ℕ
  is : o ≡ program n (g * p.alpha + j) x
  behind : f ≤ g
  inside : g < frames p
  place : j < p.alpha
  whole : length x ≡ page_bytes p

-- all operations of a list are such programs
abbrev AllFrom : Params → ℕ → ℕ → List Op → Type 0
AllFrom p n f [] = Unit {0}
AllFrom p n f (o ∷ os) = From p n f o × AllFrom p n f os

module _ (p : Params) (n f : ℕ) where
  -- two such lists, one after the other
  from_append : (xs ys : List Op) → AllFrom p n f xs → AllFrom p n f ys → AllFrom p n f (xs ++ ys)
  from_append [] ys h k = k
  from_append (o ∷ xs) ys h k = (h.0, from_append xs ys h.1 k)

  -- the front of one
  from_take : (k : ℕ) (os : List Op) → AllFrom p n f os → AllFrom p n f (take k os)
  from_take zero os h = tt
  from_take (suc k) [] h = tt
  from_take (suc k) (o ∷ os) h = (h.0, from_take k os h.1)

  -- the pages of a whole frame
  frame_from : (g : ℕ) (x : List ℕ) → f ≤ g → g < frames p → length x ≡ frame_bytes p → (k : ℕ) → k ≤ p.alpha → AllFrom p n f (frame_ops p n g x k)
  unfolding frame_ops join_below
  frame_from g x b h w zero l = tt
  frame_from g x b h w (suc k) l =
      from_append (join_below k (λ j. program n (g * p.alpha + j) (page p x j) ∷ [])) _ (frame_from g x b h w k (omega arith))
      (record { g = g; j = k; x = page p x k; is = refl; behind = b; inside = h; place = l; whole = whole }, tt)
    where
      whole : length (page p x k) ≡ page_bytes p
      whole = unfold page in part_length (page_bytes p) k x (rw w (unfold frame_bytes in next (page_bytes p) k p.alpha l))

  -- the pages of whole frames
  frames_from : (xs : List (List ℕ)) (to : ℕ) → f ≤ to → to + length xs ≤ frames p → Wholes p xs → AllFrom p n f (frames_ops p n to xs)
  unfolding frames_ops
  frames_from [] to b h w = tt
  frames_from (x ∷ xs) to b h w =
      from_append (frame_ops p n to x p.alpha) _ (frame_from to x b (omega arith) (w 0 (omega arith)) p.alpha (omega arith))
      (frames_from xs (suc to) (omega arith) (omega arith) (λ i k. w (suc i) (omega arith)))

-- ---- what they leave as it is

-- the other blocks, and the frames of block n before frame f
record Kept (p : Params) (n f : ℕ) (chip chip' : List ℕ) : Type 0 where
  else : (m : ℕ) → (m ≡ n → ⊥) → block p chip' m ≡ block p chip m
  front : (i : ℕ) → i < f → frame p (block p chip' n) i ≡ frame p (block p chip n) i
  size : length chip' ≡ length chip

module _ (p : Params) (n f : ℕ) where
  -- the program of one page leaves the chip as the programs of its whole frame do, with that page put into the frame
  one_kept : (chip : List ℕ) (o : Op) → n * block_bytes p + block_bytes p ≤ length chip → From p n f o → Kept p n f chip (on_chip p chip o)
  one_kept chip o fits h =
      rw (h.is, same)
      (record {
        else = block_other p chip y n h.g fits whole h.inside;
        front = λ i k. other_frame p chip y n h.g fits whole h.inside i (omega (arith, k, h.behind));
        size = run_length p chip y n h.g fits whole h.inside;
      })
    where
      at : ℕ
      at = n * frames p + h.g

      y : List ℕ
      y = put_part (page_bytes p) h.j h.x (part (frame_bytes p) at chip)

      room : at * frame_bytes p + frame_bytes p ≤ length chip
      room = unfold block_bytes in omega (arith, fits, next (frame_bytes p) h.g (frames p) h.inside)

      inner : length (part (frame_bytes p) at chip) ≡ frame_bytes p
      inner = part_length (frame_bytes p) at chip room

      whole : length y ≡ frame_bytes p
      whole = put_length (page_bytes p) h.j h.x (part (frame_bytes p) at chip) (rw inner (unfold frame_bytes in next (page_bytes p) h.j p.alpha h.place)) h.whole ∙ inner

      address : n * pages p + (h.g * p.alpha + h.j) ≡ at * p.alpha + h.j
      address = unfold pages in omega arith

      same : on_chip p chip (program n (h.g * p.alpha + h.j) h.x) ≡ replay_chip p chip (frame_ops p n h.g y p.alpha)
      same = rw (frame_put p chip y n h.g room whole) (unfold on_chip in rw address (unfold frame_bytes in put_inner (page_bytes p) p.alpha at h.j h.x chip h.place room))

  -- and so one after the other
  all_kept : (os : List Op) (chip : List ℕ) → n * block_bytes p + block_bytes p ≤ length chip → AllFrom p n f os → Kept p n f chip (replay_chip p chip os)
  unfolding replay_chip
  all_kept [] chip fits h = record { else = λ m ne. refl; front = λ i k. refl; size = refl }
  all_kept (o ∷ os) chip fits h =
      let a = one_kept chip o fits h.0 in
      let b = all_kept os (on_chip p chip o) (rw a.size fits) h.1 in
      record { else = λ m ne. b.else m ne ∙ a.else m ne; front = λ i k. b.front i k ∙ a.front i k; size = b.size ∙ a.size }

-- ---- a plan that reclaims

-- it is made where the open block has no room
no_room_lem : (p : Params) (vw : View) (v : ℕ) → plan_of p vw ≡ reclaims v → has_room p vw ≡ false
no_room_lem p vw v e = go (so (has_room p vw))
  where
    go : (has_room p vw ≡ true) ⊎ (has_room p vw ≡ false) → has_room p vw ≡ false
    go (inl h) =
        let one : plan_erases (plan_of p vw) ≡ 1 = rw e (unfold plan_erases in refl) in
        let none : plan_erases (plan_of p vw) ≡ 0 = unfold plan_of in rw h (unfold plan_erases in refl) in
        absurd (omega (arith, one, none))
    go (inr h) = h

module _ (p : Params) (z : Sizes p) (b : Board) (t : Tables p b) (r : ℕ) (region : r < p.mu) (nt : Neat p r (view p b r)) (full : has_room p (view p b r) ≡ false)
    (every : (u : ℕ) → u < p.gamma → assigned (view p b r) u ≡ true) (v : ℕ) (m : Makes p b r (reclaims v)) (q : Request)
    (whole : length (new_frame p (view p b r) q (next_stamp b r) v) ≡ frame_bytes p) where
  -- the block that is taken, and the victim's
  new : ℕ
  new = free_block p b.bst b.wear

  old : ℕ
  old = bt_at p b.bt r v

  -- the victim is one of the region's virtual blocks, has fewer valid frames than a block has frames, and like the others is whole
  low : v < p.gamma
  low = unfold plan_vblock in m.base.ready.mine

  few : length (valid_frames p (view p b r) v) < frames p
  few = unfold plan_frame in m.base.ready.low

  sized : (u : ℕ) → u < p.gamma → length ((view p b r).body u) ≡ block_bytes p
  sized u h = body_size p z b t r u region h (every u h)

  -- a block that BT names is not free
  differ : old ≡ new → ⊥
  unfolding old new bt_at
  differ e = free_unnamed p z b t (m.found (unfold takes_block in refl)) (r * p.gamma + v) (index_low p r v region low) e

  -- the copies' programs, the room that they and the erase make, and the programs of the new frame
  copying : List Op
  copying = frames_ops p new 0 (copies p (view p b r) (reclaims v))

  making : List Op
  making = room_ops p b r (reclaims v)

  adding : List Op
  adding = frame_ops p new (length (valid_frames p (view p b r) v)) (new_frame p (view p b r) q (next_stamp b r) v) p.alpha

  -- these are the plan's operations
  making_is : making ≡ copying ++ erase_ops p b.wear old
  unfolding making copying old new room_ops victim_ops plan_block
  making_is = refl

  all_is : plan_ops p b r q (reclaims v) ≡ making ++ adding
  unfolding making adding new plan_ops plan_block plan_frame plan_vblock
  all_is = refl

  -- valid frame i of the victim stands on a chip, where it was or as its copy
  abbrev Stands : List ℕ → ℕ → Type 0
  Stands chip i =
      let f = get_or (valid_frames p (view p b r) v) i 0 in
      (frame p (block p chip old) f ≡ frame p (block p b.chip old) f) ⊎ (frame p (block p chip new) i ≡ frame p (block p b.chip old) f)

  copy_fits : new * block_bytes p + block_bytes p ≤ length b.chip
  copy_fits = rw t.chip_length (next (block_bytes p) new p.N (unfold new in (m.found (unfold takes_block in refl)).0))

  copy_from : AllFrom p new 0 copying
  copy_from =
      unfold copying in
      frames_from p new 0 (copies p (view p b r) (reclaims v)) 0 (omega arith) (copies_fit p z r (view p b r) nt full every sized v low few)
      (wholes p z r (view p b r) nt full every sized v low few)

  -- up to the last copy the victim is as it was
  before : (k : ℕ) → k ≤ length copying → block p (replay_chip p b.chip (take k (plan_ops p b r q (reclaims v)))) old ≡ block p b.chip old
  before k h =
      rw (all_is, making_is, append_assoc, take-append-le k copying (erase_ops p b.wear old ++ adding) h)
      ((all_kept p new 0 (take k copying) b.chip copy_fits (from_take p new 0 k copying copy_from)).else old differ)

  -- from then on the copies stand: the erase and its mark are of another block, and the new frame is behind them
  fits₁ : new * block_bytes p + block_bytes p ≤ length (replay_chip p b.chip making)
  fits₁ = unfold making in rw m.room.chip_length (next (block_bytes p) new p.N (unfold new in (m.found (unfold takes_block in refl)).0))

  abbrev copied : List ℕ
  copied = replay_chip p b.chip copying

  copied_size : length copied ≡ p.N * block_bytes p
  copied_size = (all_kept p new 0 copying b.chip copy_fits copy_from).size ∙ t.chip_length

  old_fits : old * block_bytes p + block_bytes p ≤ length copied
  old_fits = rw copied_size (next (block_bytes p) old p.N (unfold old in block_low_lem p z b t r v region low (has_block p z b t r v region low (every v low))))

  made_is : replay_chip p b.chip making ≡ replay_chip p copied (erase_ops p b.wear old)
  made_is = rw making_is (replay_append p b.chip copying (erase_ops p b.wear old))

  copied_here : block p copied new ≡ (with_room p (view p b r) (reclaims v)).body v
  copied_here =
      sym ((wear_out_ran p z copied old old_fits b.wear).else new (λ e. differ (sym e))) ∙ rw (← made_is) (unfold making new plan_block plan_vblock in m.room.here)

  stands_in : (chip : List ℕ) (i : ℕ) → i < length (valid_frames p (view p b r) v) → frame p (block p chip new) i ≡ frame p (block p copied new) i
      → frame p (block p chip new) i ≡ frame p (block p b.chip old) (get_or (valid_frames p (view p b r) v) i 0)
  stands_in chip i l e =
      e ∙ ap (λ (blk : List ℕ). frame p blk i) copied_here
      ∙ unfold nth_valid in (frame_copy p z r (view p b r) nt full every sized v low few i l)
      ∙ ap (λ (blk : List ℕ). frame p blk (get_or (valid_frames p (view p b r) v) i 0)) (unfold old in body_some p z b t r v region low (has_block p z b t r v region low (every v low)))

  after : (k i : ℕ) → length copying < k → i < length (valid_frames p (view p b r) v)
      → frame p (block p (replay_chip p b.chip (take k (plan_ops p b r q (reclaims v)))) new) i ≡ frame p (block p b.chip old) (get_or (valid_frames p (view p b r) v) i 0)
  after k i h l = stands_in _ i l (go (dec_lt k (length making)))
    where
      from : AllFrom p new (length (valid_frames p (view p b r) v)) adding
      from = unfold adding in frame_from p new _ (length (valid_frames p (view p b r) v)) (new_frame p (view p b r) q (next_stamp b r) v) (omega arith) few whole p.alpha (omega arith)

      go : Dec (k < length making) → frame p (block p (replay_chip p b.chip (take k (plan_ops p b r q (reclaims v)))) new) i ≡ frame p (block p copied new) i
      go (yes a) =
          rw (all_is, take-append-le k making adding (omega arith), making_is, take_append k copying (erase_ops p b.wear old), take_all k copying (omega arith), replay_append p b.chip copying)
          (ap (λ (blk : List ℕ). frame p blk i) (first_else p z copied old old_fits b.wear (k - length copying) new (λ e. differ (sym e))))
      go (no a) =
          let split : k ≡ length making + (k - length making) = omega arith in
          rw (all_is, split, take-append-add making adding (k - length making), replay_append p b.chip making (take (k - length making) adding))
          ((all_kept p new (length (valid_frames p (view p b r) v)) (take (k - length making) adding) (replay_chip p b.chip making) fits₁ (from_take p new _ (k - length making) adding from)).front i l
          ∙ ap (λ (blk : List ℕ). frame p blk i) (rw made_is ((wear_out_ran p z copied old old_fits b.wear).else new (λ e. differ (sym e)))))

  -- so at any time
  plan_stands : (k i : ℕ) → i < length (valid_frames p (view p b r) v) → Stands (replay_chip p b.chip (take k (plan_ops p b r q (reclaims v)))) i
  plan_stands k i l = go (dec_lt (length copying) k)
    where
      go : Dec (length copying < k) → Stands (replay_chip p b.chip (take k (plan_ops p b r q (reclaims v)))) i
      go (yes h) = inr (after k i h l)
      go (no h) = inl (rw (before k (omega arith)))

-- ---- the law

-- after any k of a write's operations
pub copies_stand : CopiesStand
unfolding write_ops
copies_stand p b q e v is k i l =
    let c = write_checks p b q e in
    let a = admitted p b q c in
    let z = a.sized in
    let r = request_region p q in
    let region : r < p.mu = mod-lt (request_cluster p q) z.regions in
    let nt = neat p r (view p b r) (a.tidy r region) in
    let m : Makes p b r (reclaims v) = rw is at (makes p z b a.tables r region nt (write_free p b q e)) in
    let listed : PlanListed p (view p b r) (reclaims v) = rw is at (plan_exactly p b (record { fine = c.fine; lengths = c.lengths; tidy = c.tidy }) r region) in
    let sh = host_sheet p z (view p b r) (λ u h s. body_size p z b a.tables r u region h s) q a.asked (nt.entries (request_cluster p q) a.asked.cluster) (next_stamp b r) v (stamp_left p b q e) in
    rw is (unfold old new in plan_stands p z b a.tables r region nt (no_room_lem p (view p b r) v is) listed.every v m q sh.whole k i l)
