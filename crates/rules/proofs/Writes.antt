-- What an accepted write does: it leaves an orderly state, reads back, programs erased pages only, keeps to its region, and leaves reserved blocks alone.
-- Assumes nothing.
use mathlib.Core.Path.{◌≡◌, refl, ◌∙◌}
use mathlib.Core.Logic.{◌⊎◌, inl, inr}
use Prim.Native.Nat.{ℕ, ◌+◌, ◌-◌, ◌*◌, ◌≤◌, ◌<◌}
use native.Mathlib.Nat.{mod-lt}
use native.Mathlib.Omega.{arith}
use native.Mathlib.Decide.{ℕ_discrete, dec_lt}
use mathlib.Core.Bool.{Bool, true, false, ◌&&◌, cond}
use mathlib.Core.List.{List, [], ◌∷◌}
use lib.Dec.{leb}
use borrow.Author.Tests.{lt-leb, le-ltb}
use lib.ListN.{length, set, length-set}
use lib.Seq.{get_or-set_same, get_or-set_other}
use Rattle.lists.specs.Parts.{part}
use Rattle.rules.specs.declared.Params.{Params}
use Rattle.rules.specs.Parameters.{block_bytes, frames}
use Rattle.rules.specs.Numbers.{place_of, region_of, sector_of, vblock_of}
use Rattle.rules.specs.Tables.{Board, bst_at, bt_at, bt_entry, none, stamp_at}
use Rattle.rules.specs.Pages.{block, last_in}
use Rattle.rules.specs.Regions.{assigned, sector, sector_in, view}
use Rattle.rules.specs.Orderly.{orderly, stamp_rule}
use Rattle.rules.specs.Marks.{marks_of}
use Rattle.rules.specs.Traces.{Op, clean, erase, mark, on_wear, program, replay_chip, replay_wear, worn}
use Rattle.rules.specs.Format.{bad}
use Rattle.rules.specs.Write.{Plan, copies, follow_ct, new_frame, new_sector, next_stamp, plan_block, plan_frame, plan_ops, plan_vblock, room_ops, written_by}
use Rattle.rules.specs.Requests.{Request, request_cluster, request_region}
use Rattle.rules.specs.Machine.{with_frame, with_room}
use Rattle.rules.proofs.Admitted.{Admitted, orderly_all}
use Rattle.rules.proofs.BoardPut.{Put, block_else_lem, chip_length_lem, host_clean, write_effect}
use Rattle.rules.proofs.Chip.{clean_append, replay_append}
use Rattle.rules.proofs.Continues.{Makes}
use Rattle.rules.proofs.FramePut.{Named, Sheet, read_new, read_old}
use Rattle.rules.proofs.Isolation.{Effect, index_low, others_view, own_view}
use Rattle.rules.proofs.NewFrames.{data_new, host_sheet, host_stamp, new_given}
use Rattle.rules.proofs.RegionFacts.{Entry, Neat, neat, region_orderly}
use Rattle.rules.proofs.RegionKept.{put_orderly}
use Rattle.rules.proofs.Stamps.{Bounded, put_bounded, stamps_out, stood_bounded}
use Rattle.rules.proofs.TableFacts.{Tables}
use Rattle.rules.proofs.TablesKept.{Change, reserved_bad, reserved_block, reserved_new, reserved_stays, tables_kept}
use Rattle.rules.proofs.Views.{body_size}

pub wear_length_lem : (wear : List ℕ) (os : List Op) → length (replay_wear wear os) ≡ length wear
unfolding replay_wear on_wear
wear_length_lem wear [] = refl
wear_length_lem wear (program n q x ∷ os) = wear_length_lem wear os
wear_length_lem wear (erase n ∷ os) = wear_length_lem (set wear n _) os ∙ length-set wear n _
wear_length_lem wear (mark n ∷ os) = wear_length_lem wear os

-- the marks that a write leaves are those of the board that it leaves
pub write_marks : (p : Params) (b : Board) (r : ℕ) (q : Request) (pl : Plan) → (written_by p b r q pl).marks ≡ marks_of p (written_by p b r q pl)
unfolding written_by
write_marks p b r q pl = refl

-- the frame that a write puts is one of its cluster's, with any stamp and in any virtual block
pub own_sheet : (p : Params) (b : Board) (q : Request) → Admitted p b q → (t v : ℕ) → t < 4294967296
    → Sheet p v (request_cluster p q) (new_frame p (view p b (request_region p q)) q t v)
own_sheet p b q acc t v early =
    let r = request_region p q in
    let region : r < p.mu = mod-lt (request_cluster p q) acc.sized.regions in
    host_sheet p acc.sized (view p b r) (λ v h a. body_size p acc.sized b acc.tables r v region h a) q acc.asked
    ((neat p r (view p b r) (acc.tidy r region)).entries (request_cluster p q) acc.asked.cluster) t v early

-- ---- a write by a plan that makes room

module _ (p : Params) (b : Board) (q : Request) (acc : Admitted p b q) (r : ℕ) (is : region_of p (request_cluster p q) ≡ r) (pl : Plan) (makes : Makes p b r pl)
    (left : next_stamp b r < 4294967296) where
  region : r < p.mu
  region = rw (← is) (mod-lt (request_cluster p q) acc.sized.regions)

  neat_r : Neat p r (view p b r)
  neat_r = neat p r (view p b r) (acc.tidy r region)

  sized_r : (v : ℕ) → v < p.gamma → assigned (view p b r) v ≡ true → length ((view p b r).body v) ≡ block_bytes p
  sized_r v h a = body_size p acc.sized b acc.tables r v region h a

  pub sheet : Sheet p (plan_vblock pl) (request_cluster p q) (new_frame p (view p b r) q (next_stamp b r) (plan_vblock pl))
  sheet = host_sheet p acc.sized (view p b r) sized_r q acc.asked (neat_r.entries (request_cluster p q) acc.asked.cluster) (next_stamp b r) (plan_vblock pl) left

  pub sheet_is : sheet.stamp ≡ next_stamp b r
  unfolding sheet
  sheet_is = host_stamp p acc.sized (view p b r) sized_r q acc.asked (neat_r.entries (request_cluster p q) acc.asked.cluster) (next_stamp b r) (plan_vblock pl) left

  put : Put p b (written_by p b r q pl) r (plan_vblock pl) (plan_block p b r pl) (plan_frame p (view p b r) pl) (request_cluster p q) (new_frame p (view p b r) q (next_stamp b r) (plan_vblock pl))
      (replay_chip p b.chip (room_ops p b r pl)) (follow_ct p (plan_vblock pl) 0 (copies p (view p b r) pl) b.ct)
  unfolding written_by plan_ops
  put = record { chip = replay_append p b.chip (room_ops p b r pl) _; ct = refl; bt = refl; fst = refl }

  -- (E) each page that the trace programs is 255 throughout just before
  pub write_clean : clean p b.chip (plan_ops p b r q pl) ≡ true
  unfolding plan_ops
  write_clean =
      clean_append p b.chip (room_ops p b r pl) _ makes.tidy
      (host_clean p acc.sized b (written_by p b r q pl) acc.tables r (plan_vblock pl) (plan_block p b r pl) (plan_frame p (view p b r) pl) (request_cluster p q) (new_frame p (view p b r) q (next_stamp b r) (plan_vblock pl))
      _ _ (with_room p (view p b r) pl) makes.room put region acc.asked.cluster is makes.base.ready sheet)

  effect : Effect p b (written_by p b r q pl) r (plan_vblock pl) (plan_block p b r pl)
      (with_frame p (with_room p (view p b r) pl) (plan_vblock pl) (plan_frame p (view p b r) pl) (request_cluster p q) (new_frame p (view p b r) q (next_stamp b r) (plan_vblock pl)))
  effect =
      write_effect p acc.sized b (written_by p b r q pl) acc.tables r (plan_vblock pl) (plan_block p b r pl) (plan_frame p (view p b r) pl) (request_cluster p q) (new_frame p (view p b r) q (next_stamp b r) (plan_vblock pl))
      _ _ (with_room p (view p b r) pl) makes.room put region acc.asked.cluster is makes.base.ready sheet

  -- (I) another region's view is what it was, and its own depends on its own alone
  pub others_same : (r' : ℕ) → r' < p.mu → (r' ≡ r → ⊥) → view p (written_by p b r q pl) r' ≡ view p b r'
  others_same r' h ne = others_view p b (written_by p b r q pl) r (plan_vblock pl) (plan_block p b r pl) _ makes.base.ready.mine region effect r' h ne

  pub own_is : view p (written_by p b r q pl) r ≡ with_frame p (with_room p (view p b r) pl) (plan_vblock pl) (plan_frame p (view p b r) pl) (request_cluster p q) (new_frame p (view p b r) q (next_stamp b r) (plan_vblock pl))
  own_is = own_view p b (written_by p b r q pl) r (plan_vblock pl) (plan_block p b r pl) _ makes.base.ready.mine region effect

  -- (R) the sectors of the request read as given, the others as before
  here_in : (j : ℕ) → j < p.alpha → sector p (written_by p b r q pl) (request_cluster p q) j ≡ new_sector p (view p b r) q j
  unfolding sector
  here_in j h =
      rw (is, own_is) (read_new p acc.sized (with_room p (view p b r) pl) (plan_vblock pl) (plan_frame p (view p b r) pl) (request_cluster p q) (new_frame p (view p b r) q (next_stamp b r) (plan_vblock pl)) makes.base.ready sheet j
      ∙ data_new p acc.sized (view p b r) sized_r q acc.asked (neat_r.entries (request_cluster p q) acc.asked.cluster) (next_stamp b r) (plan_vblock pl) j h)

  pub reads_given : (j : ℕ) → sector_of p q.lba ≤ j → j < sector_of p q.lba + q.count
      → sector p (written_by p b r q pl) (request_cluster p q) j ≡ part p.s (j - sector_of p q.lba) q.bytes
  reads_given j a h =
      here_in j (omega (arith, acc.asked.inside))
      ∙ new_given p acc.sized (view p b r) sized_r q acc.asked (neat_r.entries (request_cluster p q) acc.asked.cluster) j a h

  named_in : (c : ℕ) → c < p.C → Named p (with_room p (view p b r) pl) c
  unfolding Named
  named_in c h = go (makes.base.entries c h)
    where
      go : ((with_room p (view p b r) pl).seg_of c ≡ none) ⊎ Entry p (with_room p (view p b r) pl) c → ((with_room p (view p b r) pl).seg_of c ≡ none)
          ⊎ (last_in p ((with_room p (view p b r) pl).body (vblock_of p ((with_room p (view p b r) pl).seg_of c))) (place_of p ((with_room p (view p b r) pl).seg_of c)) c < frames p)
      go (inl e) = inl e
      go (inr e) = inr e.held

  pub reads_else : (c : ℕ) → c < p.C → (c ≡ request_cluster p q → ⊥) → (j : ℕ) → sector p (written_by p b r q pl) c j ≡ sector p b c j
  unfolding sector
  reads_else c h ne j = go (ℕ_discrete (region_of p c) r)
    where
      go : Dec (region_of p c ≡ r) → sector_in p (view p (written_by p b r q pl) (region_of p c)) c j ≡ sector_in p (view p b (region_of p c)) c j
      go (yes e) =
          rw (e, own_is) (read_old p acc.sized (with_room p (view p b r) pl) (plan_vblock pl) (plan_frame p (view p b r) pl) (request_cluster p q) (new_frame p (view p b r) q (next_stamp b r) (plan_vblock pl))
          makes.base.ready sheet c ne (named_in c h) j
          ∙ makes.reads c h j)
      go (no e) = rw (others_same (region_of p c) (mod-lt c acc.sized.regions) e)

  pub reads_rest : (j : ℕ) → j < p.alpha → (sector_of p q.lba ≤ j → j < sector_of p q.lba + q.count → ⊥)
      → sector p (written_by p b r q pl) (request_cluster p q) j ≡ sector p b (request_cluster p q) j
  unfolding new_sector sector
  reads_rest j h out = here_in j h ∙ go (dec_lt j (sector_of p q.lba)) ∙ rw is
    where
      go : Dec (j < sector_of p q.lba) → new_sector p (view p b r) q j ≡ sector_in p (view p b r) (request_cluster p q) j
      go (yes k) = rw (lt-leb (sector_of p q.lba) j k)
      go (no k) = rw (le-ltb j (sector_of p q.lba + q.count) (later (dec_lt j (sector_of p q.lba + q.count)))) (both (leb (sector_of p q.lba) j))
        where
          later : Dec (j < sector_of p q.lba + q.count) → sector_of p q.lba + q.count ≤ j
          later (yes m) = absurd (out (omega arith) m)
          later (no m) = omega arith

          both : (x : Bool) → cond (x && false) (part p.s (j - sector_of p q.lba) q.bytes) (sector_in p (view p b r) (request_cluster p q) j) ≡ sector_in p (view p b r) (request_cluster p q) j
          both true = refl
          both false = refl

  -- (P) an orderly state is left
  else_block : (m : ℕ) → (m ≡ plan_block p b r pl → ⊥) → block p (written_by p b r q pl).chip m ≡ block p (replay_chip p b.chip (room_ops p b r pl)) m
  else_block =
      block_else_lem p acc.sized b (written_by p b r q pl) acc.tables r (plan_vblock pl) (plan_block p b r pl) (plan_frame p (view p b r) pl) (request_cluster p q) (new_frame p (view p b r) q (next_stamp b r) (plan_vblock pl))
      _ _ (with_room p (view p b r) pl) makes.room put region acc.asked.cluster is makes.base.ready sheet

  size_chip : length (written_by p b r q pl).chip ≡ p.N * block_bytes p
  size_chip =
      chip_length_lem p acc.sized b (written_by p b r q pl) acc.tables r (plan_vblock pl) (plan_block p b r pl) (plan_frame p (view p b r) pl) (request_cluster p q) (new_frame p (view p b r) q (next_stamp b r) (plan_vblock pl))
      _ _ (with_room p (view p b r) pl) makes.room put region acc.asked.cluster is makes.base.ready sheet

  change : Change p b (written_by p b r q pl) (r * p.gamma + plan_vblock pl) (plan_block p b r pl)
  unfolding written_by bt_at bt_entry bst_at
  change =
      record {
        chip_length = size_chip;
        ct_length = rw length-set makes.room.ct_length;
        bt_length = rw length-set acc.tables.bt_length;
        fst_length = rw length-set acc.tables.fst_length;
        bst_length = makes.bst_length;
        wear_length = wear_length_lem b.wear (plan_ops p b r q pl) ∙ acc.tables.wear_length;
        stamps_length = length-set b.stamps r _ ∙ acc.tables.stamps_length;
        index = index_low p r (plan_vblock pl) region makes.base.ready.mine;
        low = makes.room.low;
        entry_else = effect.entry_else;
        entry_here = effect.entry_here;
        own = makes.room.own;
        was = makes.was;
        kind_here = makes.kind_here;
        kind_old = makes.kind_old;
        worn_out = worn p b.wear (bt_at p b.bt r (plan_vblock pl));
        block_old = λ ne k. else_block _ ne ∙ makes.block_old ne k;
        kind_else = makes.kind_else;
        block_else = λ m h ne k. else_block m ne ∙ makes.block_else m h ne k;
      }

  pub tables_after : Tables p (written_by p b r q pl)
  tables_after = tables_kept p acc.sized b (written_by p b r q pl) acc.tables _ _ change

  -- (B) a block that is reserved stays so and keeps its bytes; one that becomes so is the victim's, worn out, and is bad
  pub write_stays : (m : ℕ) → m < p.N → bst_at b.bst m ≡ 2 → bst_at (written_by p b r q pl).bst m ≡ 2
  write_stays = reserved_stays p acc.sized b (written_by p b r q pl) acc.tables _ _ change

  pub write_reserves : (m : ℕ) → m < p.N → bst_at (written_by p b r q pl).bst m ≡ 2
      → (bst_at b.bst m ≡ 2) ⊎ ((m ≡ bt_at p b.bt r (plan_vblock pl)) × (worn p b.wear (bt_at p b.bt r (plan_vblock pl)) ≡ true) × (m ≡ plan_block p b r pl → ⊥))
  unfolding bt_at change
  write_reserves = reserved_new p acc.sized b (written_by p b r q pl) acc.tables _ _ change

  pub write_reserved_bad : (m : ℕ) → m < p.N → (bst_at b.bst m ≡ 2 → bad p b.chip m ≡ true) → bst_at (written_by p b r q pl).bst m ≡ 2 → bad p (written_by p b r q pl).chip m ≡ true
  write_reserved_bad = reserved_bad p acc.sized b (written_by p b r q pl) acc.tables _ _ change

  pub reserved_bytes : (m : ℕ) → m < p.N → bst_at b.bst m ≡ 2 → block p (written_by p b r q pl).chip m ≡ block p b.chip m
  reserved_bytes = reserved_block p acc.sized b (written_by p b r q pl) acc.tables _ _ change

  -- (S) no stamp is larger than its region's last
  write_stamps : stamp_rule p (written_by p b r q pl) ≡ true
  write_stamps = stamps_out p (written_by p b r q pl) (λ r' h. go r' h (ℕ_discrete r' r))
    where
      here : stamp_at (written_by p b r q pl).stamps r ≡ stamp_at b.stamps r + 1
      here = unfold written_by next_stamp stamp_at in get_or-set_same b.stamps r _ 0 (rw acc.tables.stamps_length region)

      else : (r' : ℕ) → (r' ≡ r → ⊥) → stamp_at (written_by p b r q pl).stamps r' ≡ stamp_at b.stamps r'
      else r' ne = unfold written_by stamp_at in get_or-set_other b.stamps r r' _ 0 ne

      go : (r' : ℕ) → r' < p.mu → Dec (r' ≡ r) → Bounded p (view p (written_by p b r q pl) r') (stamp_at (written_by p b r q pl).stamps r')
      go r' h (yes e) =
          rw (e, own_is, here)
          (put_bounded p acc.sized (with_room p (view p b r) pl) (plan_vblock pl) (plan_frame p (view p b r) pl) (request_cluster p q) _ makes.base.ready sheet
          (stamp_at b.stamps r) (sheet_is ∙ unfold next_stamp in refl)
          (stood_bounded p (view p b r) (with_room p (view p b r) pl) (stamp_at b.stamps r) makes.stood (acc.stamped r region)))
      go r' h (no e) = rw (others_same r' h e, else r' e) (acc.stamped r' h)

  pub write_orderly : orderly p (written_by p b r q pl) ≡ true
  write_orderly = orderly_all p (written_by p b r q pl) acc.sized tables_after (λ r' h. go r' h (ℕ_discrete r' r)) (write_marks p b r q pl) write_stamps
    where
      go : (r' : ℕ) → r' < p.mu → Dec (r' ≡ r) → region_orderly p r' (view p (written_by p b r q pl) r') ≡ true
      go r' h (yes e) = rw (e, own_is) (put_orderly p acc.sized r (with_room p (view p b r) pl) (plan_vblock pl) (plan_frame p (view p b r) pl) (request_cluster p q)
          (new_frame p (view p b r) q (next_stamp b r) (plan_vblock pl)) makes.base sheet acc.asked.cluster is)
      go r' h (no e) = rw (others_same r' h e) (acc.tidy r' h)
