-- A plan has made room: the board stands ready for the host's frame, and with that frame it is what the rules say.
-- Assumes nothing.
use mathlib.Core.Path.{◌≡◌, refl, sym, ◌∙◌}
use mathlib.Core.Logic.{◌⊎◌, inr}
use mathlib.Core.List.{List, [], ◌++◌}
use Prim.Native.Nat.{ℕ, ◌+◌, ◌*◌, ◌<◌}
use native.Mathlib.Decide.{ℕ_discrete}
use native.Mathlib.Nat.{mod-lt}
use lib.ListN.{length, set, length-set}
use lib.Seq.{get_or-set_same, get_or-set_other}
use Rattle.write_cluster.specs.Clusters.{Standing, ClusterPut}
use Rattle.rules.specs.declared.Params.{Params}
use Rattle.rules.specs.Write.{Plan, continues, opens, reclaims, plan_vblock, plan_frame, plan_block, plan_bst, plan_ops, room_ops, copies, follow_ct, new_frame, new_page, new_sector, written_by, next_stamp}
use Rattle.rules.specs.Tables.{Board, board_of, none, ct_at, bt_at, fst_at, bt_entry, stamp_at}
use Rattle.rules.specs.Regions.{View, view, view_of}
use Rattle.rules.specs.Traces.{frame_ops, replay_chip, replay_wear}
use Rattle.rules.specs.Requests.{request_cluster, Request, request_region}
use Rattle.rules.specs.Machine.{with_room}
use Rattle.lists.proofs.Joins.{join_cong}
use Rattle.rules.proofs.Chip.{replay_append}
use Rattle.rules.proofs.Isolation.{Effect, index_low, own_view}
use Rattle.rules.proofs.Continues.{Makes}
use Rattle.rules.proofs.Admitted.{Admitted}
use Rattle.write_room.proofs.Worn.{wear_append, frame_wear}

room_last : (p : Params) (vw : View) (pl : Plan) → (with_room p vw pl).last_seg ≡ vw.last_seg
unfolding with_room
room_last p vw (continues v f) = refl
room_last p vw (opens v) = refl
room_last p vw (reclaims v) = refl

module _ (p : Params) (b : Board) (q : Request) (acc : Admitted p b q) (left : stamp_at b.stamps (request_region p q) < 4294967295) (pl : Plan) (makes : Makes p b (request_region p q) pl) where
  abbrev r : ℕ
  r = request_region p q

  abbrev vw : View
  vw = view p b r

  abbrev v : ℕ
  v = plan_vblock pl

  abbrev f : ℕ
  f = plan_frame p vw pl

  abbrev n : ℕ
  n = plan_block p b r pl

  -- the board with room, but for BST, wear and marks
  abbrev pub ready : Board
  ready = board_of (replay_chip p b.chip (room_ops p b r pl)) (follow_ct p v 0 (copies p vw pl) b.ct) (set b.bt (r * p.gamma + v) n) b.fst [] [] [] b.stamps

  region_in : r < p.mu
  region_in = mod-lt (request_cluster p q) acc.sized.regions

  index_in : r * p.gamma + v < length b.bt
  index_in = rw acc.tables.bt_length (index_low p r v region_in makes.base.ready.mine)

  entry_else_lem : (i : ℕ) → (i ≡ r * p.gamma + v → ⊥) → bt_entry ready.bt i ≡ bt_entry b.bt i
  unfolding bt_entry
  entry_else_lem i ne = get_or-set_other b.bt (r * p.gamma + v) i n none ne

  entry_here_lem : bt_entry ready.bt (r * p.gamma + v) ≡ n
  unfolding bt_entry
  entry_here_lem = get_or-set_same b.bt (r * p.gamma + v) n none index_in

  effect : Effect p b ready r v n (with_room p vw pl)
  unfolding ct_at fst_at
  effect =
      record {
        segs_else = makes.room.segs_else;
        segs_here = makes.room.segs_here;
        segs_none = makes.room.segs_none;
        last_else = λ r' ne. refl;
        last_here = unfold view_of in sym (room_last p vw pl);
        entry_else = entry_else_lem;
        entry_here = entry_here_lem;
        taken = makes.room.taken;
        body_else = makes.room.body_else;
        body_here = makes.room.here;
        block_else = makes.room.block_else;
      }

  pub view_is : view p ready r ≡ with_room p vw pl
  view_is = own_view p b ready r v n (with_room p vw pl) makes.base.ready.mine region_in effect

  block_is : bt_at p ready.bt r v ≡ n
  unfolding bt_at bt_entry
  block_is = entry_here_lem

  names : (i : ℕ) → i < p.mu * p.gamma → (bt_entry ready.bt i ≡ none) ⊎ (bt_entry ready.bt i < p.N)
  names i h = go (ℕ_discrete i (r * p.gamma + v))
    where
      go : Dec (i ≡ r * p.gamma + v) → (bt_entry ready.bt i ≡ none) ⊎ (bt_entry ready.bt i < p.N)
      go (yes e) = inr (rw (e, entry_here_lem) makes.room.low)
      go (no e) = rw (entry_else_lem i e) (acc.tables.names i h)

  pub standing : Standing p ready q v f
  standing =
      record {
        fine = acc.fine;
        chip_length = makes.room.chip_length;
        ct_length = makes.room.ct_length;
        bt_length = length-set b.bt (r * p.gamma + v) n ∙ acc.tables.bt_length;
        fst_length = acc.tables.fst_length;
        stamps_length = acc.tables.stamps_length;
        left = left;
        names = names;
        taken = λ e. makes.room.taken (sym block_is ∙ e);
        base = rw view_is makes.base;
        asked = acc.asked;
      }

  -- what is read is what was read
  frame_same : new_frame p (view p ready r) q (next_stamp b r) v ≡ new_frame p vw q (next_stamp b r) v
  unfolding new_frame new_page new_sector
  frame_same = join_cong p.alpha _ _ (λ j l. rw (view_is, makes.reads (request_cluster p q) acc.asked.cluster j))

  -- the new frame's pages, on the chip with room
  pub pages_made : (m : ℕ) → replay_chip p ready.chip (frame_ops p (bt_at p ready.bt r v) f (new_frame p (view p ready r) q (next_stamp ready r) v) m)
      ≡ replay_chip p b.chip (room_ops p b r pl ++ frame_ops p n f (new_frame p vw q (next_stamp b r) v) m)
  unfolding next_stamp
  pages_made m = rw (block_is, frame_same) (sym (replay_append p b.chip (room_ops p b r pl) _))

  wear_is_lem : (written_by p b r q pl).wear ≡ replay_wear b.wear (room_ops p b r pl)
  unfolding written_by plan_ops
  wear_is_lem = wear_append b.wear (room_ops p b r pl) _ ∙ frame_wear p n f (new_frame p vw q (next_stamp b r) v) _ p.alpha

  -- the board after the write
  pub done : (chip ct fst stamps bst wear marks : List ℕ) → ClusterPut p ready q v f chip ct fst stamps → bst ≡ plan_bst p b r pl → wear ≡ replay_wear b.wear (room_ops p b r pl)
      → marks ≡ (written_by p b r q pl).marks → board_of chip ct ready.bt fst bst wear marks stamps ≡ written_by p b r q pl
  unfolding written_by next_stamp
  done chip ct fst stamps bst wear marks h eb ew em =
      let ec : chip ≡ (written_by p b r q pl).chip = h.chip ∙ pages_made p.alpha ∙ unfold plan_ops in refl in
      let et : wear ≡ (written_by p b r q pl).wear = ew ∙ sym wear_is_lem in
      rw (em, ec, et, h.ct, h.fst, h.stamps, eb)
