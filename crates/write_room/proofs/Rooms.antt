-- A plan's room: what each kind of plan leaves is what the rules' operations and tables are.
-- Assumes nothing.
use mathlib.Core.Path.{◌≡◌, ap, refl, sym, ◌∙◌}
use mathlib.Core.Bool.{Bool, true}
use mathlib.Core.List.{List, map}
use Prim.Native.Nat.{ℕ, ◌+◌, ◌*◌, ◌<◌}
use native.Mathlib.Omega.{arith}
use borrow.Author.Tests.{lt-ltb, ne_eqb}
use lib.ListN.{length, set}
use lib.Seq.{set-get_or}
use Rattle.lists.proofs.Ranks.{keep_cong}
use Rattle.rules.specs.declared.Params.{Params}
use Rattle.rules.specs.Parameters.{allowed, frames}
use Rattle.rules.specs.Tables.{Board, board_of, none, bt_at, bt_entry}
use Rattle.rules.specs.Pages.{block, frame}
use Rattle.rules.specs.Regions.{view, view_of, body_at, valid_frames}
use Rattle.rules.specs.Traces.{erase_ops, erased_state, erases_in, replay_chip, replay_wear, frames_ops}
use Rattle.rules.specs.Write.{continues, opens, reclaims, plan_vblock, plan_frame, copies, free_block, plan_block, victim_ops, room_ops, follow_ct, plan_bst}
use Rattle.rules.proofs.Sizes.{sizes}
use Rattle.rules.proofs.WornBlocks.{wear_out_counts, wear_out_wear}
use Rattle.rules.specs.Marks.{Marks, marks_in, marks_of, marks_on, table_of}
use Rattle.marks.proofs.FrameMarks.{marked_valid}
use Rattle.write_reclaim.specs.Moves.{Reclaimed, ReclaimAsked, marked_frames}
use Rattle.write_room.specs.Rooms.{OpenAsked, Opened, ReclaimReady, BlockReclaimed, RoomMade}
use Rattle.write_room.proofs.Worn.{wear_append, frames_wear, map_length}

-- the bytes of a virtual block that has a block
block_of_view : (p : Params) (chip ct bt fst : List ℕ) (r v : ℕ) → v < p.gamma → (bt_at p bt r v ≡ none → ⊥) → (view_of p chip ct bt fst r).body v ≡ block p chip (bt_at p bt r v)
unfolding view_of body_at
block_of_view p chip ct bt fst r v low ne = rw (lt-ltb v p.gamma low, ne_eqb (bt_at p bt r v) none ne)

-- the marked frames of a virtual block are the ones that its reclaim copies
pub copies_are : (p : Params) → allowed p ≡ true → (b : Board) (r v : ℕ) → v < p.gamma → bt_at p b.bt r v < p.N
    → marked_frames p (block p b.chip (bt_at p b.bt r v)) (marks_on p b r v) ≡ copies p (view p b r) (reclaims v)
unfolding copies valid_frames marks_in
copies_are p fine b r v low in-chip =
    let body = block_of_view p b.chip b.ct b.bt b.fst r v low (λ x. omega (arith, x, in-chip, (sizes p fine).blocks)) in
    rw body (ap (map (frame p (block p b.chip (bt_at p b.bt r v)))) (keep_cong (frames p) _ _ (λ f h. marked_valid p (view p b r) v f h)))

-- ---- the block that is taken

module _ (p : Params) (bt bst : List ℕ) (r v n : ℕ) (a : OpenAsked p bt bst r v n) where
  pub free_few : n < 65536
  free_few = omega (arith, a.in_chip, (sizes p a.fine).blocks)

  pub free_in : n < length bst
  free_in = rw a.bst_length a.in_chip

module _ (p : Params) (chip ct bt bst wear marks : List ℕ) (r v n : ℕ) (a : ReclaimReady p chip ct bt bst wear marks r v n) where
  module _ (o : ℕ) (eo : o ≡ bt_at p bt r v) where
    pub reclaim_asked : ReclaimAsked p chip ct wear marks o n r v
    reclaim_asked = record { blocks = rw eo a.blocks; wear_length = a.wear_length; words = a.words }

    pub old_in : o < length bst
    old_in = rw (eo, a.taking.bst_length) a.blocks.between.from

    pub old_worn : o < length wear
    old_worn = rw (eo, a.wear_length) a.blocks.between.from

    pub block_reclaimed : (m : ℕ → Bool) (chip' ct' bt' bst₁ bst' wear' : List ℕ) (k s : ℕ) → s ≡ erased_state p wear o → Reclaimed p chip ct wear o n v (marked_frames p (block p chip o) m) chip' ct' wear' k
        → bt' ≡ set bt (r * p.gamma + v) n → bst₁ ≡ set bst n 1 → bst' ≡ set bst₁ o s
        → BlockReclaimed p chip ct bt bst wear r v n (marked_frames p (block p chip (bt_at p bt r v)) m) chip' ct' bt' bst' wear' k
    block_reclaimed m chip' ct' bt' bst₁ bst' wear' k s es d x y w = record { moved = rw eo at d; bt_is = x; bst_is = w ∙ rw (y, es, eo) }

-- ---- by the plan

module _ (p : Params) (chip ct bt fst bst wear marks stamps : List ℕ) (r : ℕ) where
  abbrev b : Board
  b = board_of chip ct bt fst bst wear marks stamps

  pub made_continues : (v f : ℕ) → RoomMade p b r (continues v f) v f 0 0 chip ct bt bst wear
  unfolding plan_vblock plan_frame copies victim_ops erases_in room_ops frames_ops replay_chip follow_ct plan_block plan_bst replay_wear
  made_continues v f =
      record {
        vblock = refl;
        frame = refl;
        count = refl;
        erases = refl;
        chip_is = refl;
        ct_is = refl;
        bt_is = unfold bt_at bt_entry in sym (set-get_or bt (r * p.gamma + v) 65535);
        bst_is = refl;
        wear_is = refl;
      }

  pub made_opens : (v n : ℕ) (bt' bst' : List ℕ) → n ≡ free_block p bst wear → Opened p bt bst r v n bt' bst' → RoomMade p b r (opens v) v 0 0 0 chip ct bt' bst' wear
  unfolding plan_vblock plan_frame copies victim_ops erases_in room_ops frames_ops replay_chip follow_ct plan_block plan_bst replay_wear
  made_opens v n bt' bst' en o =
      record { vblock = refl; frame = refl; count = refl; erases = refl; chip_is = refl; ct_is = refl; bt_is = o.bt_is ∙ rw en; bst_is = o.bst_is ∙ rw en; wear_is = refl }

  made_reclaims : (v : ℕ) (chip' ct' bt' bst' wear' : List ℕ) (k : ℕ) → BlockReclaimed p chip ct bt bst wear r v (free_block p bst wear) (copies p (view p b r) (reclaims v)) chip' ct' bt' bst' wear' k
      → RoomMade p b r (reclaims v) v k k 1 chip' ct' bt' bst' wear'
  unfolding plan_vblock plan_frame victim_ops room_ops plan_block plan_bst
  made_reclaims v chip' ct' bt' bst' wear' k d =
      record {
        vblock = refl;
        frame = d.moved.count ∙ unfold copies in map_length (frame p ((view p b r).body v)) (valid_frames p (view p b r) v);
        count = d.moved.count;
        erases = sym (wear_out_counts p wear (bt_at p bt r v)).1;
        chip_is = d.moved.chip_is;
        ct_is = d.moved.ct_is;
        bt_is = d.bt_is;
        bst_is = d.bst_is;
        wear_is =
            d.moved.wear_is
            ∙ sym (wear_append wear (frames_ops p (free_block p bst wear) 0 (copies p (view p b r) (reclaims v))) (erase_ops p wear (bt_at p bt r v))
            ∙ rw (frames_wear p (free_block p bst wear) 0 (copies p (view p b r) (reclaims v)) wear) (wear_out_wear p wear (bt_at p bt r v) wear));
      }

-- the copies of a reclaim are the marked frames, where each mark equals the validity rule
pub made_by_marks : (p : Params) (chip ct bt bst wear marks : List ℕ) (r v n : ℕ) → n ≡ free_block p bst wear → ReclaimReady p chip ct bt bst wear marks r v n → (fst stamps : List ℕ)
    → marks ≡ marks_of p (board_of chip ct bt fst bst wear marks stamps)
    → (chip' ct' bt' bst' wear' : List ℕ) (k : ℕ)
    → ((m : Marks) → marks ≡ table_of p m → BlockReclaimed p chip ct bt bst wear r v n (marked_frames p (block p chip (bt_at p bt r v)) (m r v)) chip' ct' bt' bst' wear' k)
    → RoomMade p (board_of chip ct bt fst bst wear marks stamps) r (reclaims v) v k k 1 chip' ct' bt' bst' wear'
made_by_marks p chip ct bt bst wear marks r v n en a fst stamps e chip' ct' bt' bst' wear' k d =
    made_reclaims p chip ct bt fst bst wear marks stamps r v chip' ct' bt' bst' wear' k (rw (en, copies_are p a.words.fine (board_of chip ct bt fst bst wear marks stamps) r v a.taking.low a.blocks.between.from) at (d (marks_on p (board_of chip ct bt fst bst wear marks stamps)) e))
