-- A write that is cut: what each of its steps asks is there, and what it leaves is the rules' board, by chip and wear alone, since all tables else are lost.
-- Assumes nothing.
use mathlib.Core.Path.{◌≡◌, ◌∙◌}
use mathlib.Core.Bool.{Bool}
use mathlib.Core.List.{List, []}
use Prim.Native.Nat.{ℕ, ◌-◌, ◌≤◌, ◌<◌}
use native.Mathlib.Omega.{arith}
use lib.ListN.{length, take}
use Rattle.rules.specs.declared.Params.{Params}
use Rattle.rules.specs.Tables.{Board, board_of}
use Rattle.rules.specs.Traces.{replay_chip, replay_wear}
use Rattle.rules.specs.Marks.{marks_of}
use Rattle.rules.specs.Write.{Plan, continues, opens, reclaims, plan_block, room_ops, write_ops}
use Rattle.rules.specs.Requests.{Request, request_cluster, request_region}
use Rattle.rules.specs.Cuts.{cut_board}
use Rattle.rules.proofs.Admitted.{admitted, write_checks}
use Rattle.read_work.specs.Lookup.{Lookup, Stands}
use Rattle.chip_lost.specs.Lost.{Lost}
use Rattle.chip_lost.proofs.Board.{Lengths, lost_board}
use Rattle.write_room.specs.Rooms.{RoomAsked, RoomMade}
use Rattle.write_cluster.specs.Clusters.{PagesAsked, PagesPut}
use Rattle.write_cluster.proofs.Put.{pages_are, pages_asked}
use Rattle.write_work.proofs.Writes as write
use Rattle.cut_write.specs.Cut.{CopiesAsked, CutAsked, FirstMade}
use Rattle.cut_write.proofs.Firsts.{ops_pages, ops_room, pages_worn}

module _ (p : Params) (b : Board) (q : Request) (r : ℕ) (pl : Plan) (n room k : ℕ) (a : CutAsked p b q r pl n room k) where
  abbrev region : ℕ
  region = request_region p q

  -- as long as they were, and lost
  module _ (chip ct bt fst bst wear marks stamps ct' bt' fst' bst' marks' stamps' : List ℕ) (x : Lost ct bt fst bst marks stamps ct' bt' fst' bst' marks' stamps')
      (ec : length ct ≡ length b.ct) (eb : length bt ≡ length b.bt) (ef : length fst ≡ length b.fst) (es : length bst ≡ length b.bst)
      (em : length marks ≡ length b.marks) (et : length stamps ≡ length b.stamps) where
    lengths : Lengths p ct bt fst bst marks stamps
    lengths =
        let t = (admitted p b q (write_checks p b q a.made.accepted)).tables in
        record {
          ct_length = ec ∙ t.ct_length;
          bt_length = eb ∙ t.bt_length;
          fst_length = ef ∙ t.fst_length;
          bst_length = es ∙ t.bst_length;
          marks_length = em ∙ write.marks_full p b q a.made.accepted;
          stamps_length = et ∙ t.stamps_length;
        }

    lost : chip ≡ replay_chip p b.chip (take k (write_ops p b q)) → wear ≡ replay_wear b.wear (take k (write_ops p b q))
        → board_of chip ct' bt' fst' bst' wear marks' stamps' ≡ cut_board p b (take k (write_ops p b q))
    lost = lost_board p b (take k (write_ops p b q)) chip wear ct bt fst bst marks stamps ct' bt' fst' bst' marks' stamps' lengths x

    -- cut within the room
    pub lost_room : k < room
        → ((ct fst bst stamps : List ℕ) → b.marks ≡ marks_of p (board_of b.chip ct b.bt fst bst b.wear b.marks stamps)
        → n ≡ plan_block p (board_of b.chip ct b.bt fst bst b.wear b.marks stamps) r pl
        → room ≡ length (room_ops p (board_of b.chip ct b.bt fst bst b.wear b.marks stamps) r pl)
        → FirstMade p b.chip b.wear (room_ops p (board_of b.chip ct b.bt fst bst b.wear b.marks stamps) r pl) k chip wear)
        → board_of chip ct' bt' fst' bst' wear marks' stamps' ≡ cut_board p b (take k (write_ops p b q))
    lost_room h is =
        let few : k < length (room_ops p b region pl) = omega (arith, a.ops) in
        let made = rw a.made.region at (is b.ct b.fst b.bst b.stamps (write.marks_are_lem p b q a.made.accepted)) in
        let e = ops_room p b q pl a.made.plan k few in
        let first = made a.made.block a.ops in
        lost (first.chip_is ∙ rw e) (first.wear_is ∙ rw e)

    -- cut behind it
    pub lost_pages : room ≤ k → (v f copied erases : ℕ) (chip₁ ct₁ bt₁ bst₁ stamps₁ : List ℕ)
        → ((fst stamps : List ℕ) → b.marks ≡ marks_of p (board_of b.chip b.ct b.bt fst b.bst b.wear b.marks stamps)
        → RoomMade p (board_of b.chip b.ct b.bt fst b.bst b.wear b.marks stamps) r pl v f copied erases chip₁ ct₁ bt₁ bst₁ wear)
        → (kept : Bool) (fr : ℕ) → Stands p chip₁ ct₁ bt₁ (request_cluster p q) kept fr → PagesPut p chip₁ bt₁ b.stamps q v f kept fr (k - room) chip stamps₁
        → board_of chip ct' bt' fst' bst' wear marks' stamps' ≡ cut_board p b (take k (write_ops p b q))
    lost_pages h v f copied erases chip₁ ct₁ bt₁ bst₁ stamps₁ m kept fr found put =
        let s = write.standing p b q a.made.accepted r a.made.region pl a.made.plan v f copied erases chip₁ ct₁ bt₁ bst₁ wear m in
        let y = write.pages_made p b q a.made.accepted r a.made.region pl a.made.plan v f copied erases chip₁ ct₁ bt₁ bst₁ wear m (k - room) chip
        (pages_are p (board_of chip₁ ct₁ bt₁ b.fst [] [] [] b.stamps) q v f s kept fr found (k - room) chip stamps₁ put) in
        let made = write.m_r p b q a.made.accepted r a.made.region pl a.made.plan v f copied erases chip₁ ct₁ bt₁ bst₁ wear m in
        let e = ops_pages p b q pl a.made.plan k (omega (arith, a.ops)) (omega (arith, a.ops, a.few)) in
        lost (y ∙ rw (e, ← a.ops)) (made.wear_is ∙ rw (e, pages_worn p b q pl a.made.plan b.wear (k - length (room_ops p b region pl))))

  -- ---- what the steps ask

  pub sectors : 0 < p.alpha
  sectors = write.sectors p b q a.made.accepted

  pub room_asked : RoomAsked p b.chip b.ct b.bt b.bst b.wear b.marks r pl n
  room_asked = write.room_asked p b q a.made.accepted r a.made.region pl a.made.plan n a.made.block

  pub copies_asked : CopiesAsked p b.chip b.bt b.wear b.marks r pl n
  copies_asked = go pl room_asked
    where
      go : (l : Plan) → RoomAsked p b.chip b.ct b.bt b.bst b.wear b.marks r l n → CopiesAsked p b.chip b.bt b.wear b.marks r l n
      go (continues v f) w = tt
      go (opens v) w = tt
      go (reclaims v) w = record { bt_length = w.1.taking.bt_length; wear_length = w.1.wear_length; words = w.1.words; between = w.1.blocks.between }

  module _ (v f copied erases : ℕ) (chip₁ ct₁ bt₁ bst₁ wear₁ : List ℕ)
      (m : (fst stamps : List ℕ) → b.marks ≡ marks_of p (board_of b.chip b.ct b.bt fst b.bst b.wear b.marks stamps)
      → RoomMade p (board_of b.chip b.ct b.bt fst b.bst b.wear b.marks stamps) r pl v f copied erases chip₁ ct₁ bt₁ bst₁ wear₁) where
    pub lookup_asked : (c : ℕ) → c ≡ request_cluster p q → Lookup p chip₁ ct₁ bt₁ c
    lookup_asked = write.lookup_made p b q a.made.accepted r a.made.region pl a.made.plan v f copied erases chip₁ ct₁ bt₁ bst₁ wear₁ m

    pub put_asked : (kept : Bool) (fr : ℕ) → Stands p chip₁ ct₁ bt₁ (request_cluster p q) kept fr → PagesAsked p chip₁ bt₁ b.stamps q v f kept fr
    put_asked =
        pages_asked p (board_of chip₁ ct₁ bt₁ b.fst [] [] [] b.stamps) q v f
        (write.standing p b q a.made.accepted r a.made.region pl a.made.plan v f copied erases chip₁ ct₁ bt₁ bst₁ wear₁ m)

  pub pages_few : k - room ≤ p.alpha
  pages_few = omega (arith, a.few)
