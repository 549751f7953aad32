-- The operations of an accepted call fit the chip: each program is of a whole page with the spare bytes of its cluster and place, each erase of a block.
-- Assumes nothing.
use mathlib.Core.Path.{◌≡◌, refl, sym, ap, ◌∙◌}
use mathlib.Core.Logic.{◌⊎◌, inl, inr}
use Prim.Native.Nat.{ℕ, suc, ◌+◌, ◌*◌, ◌%◌, ◌≤◌, ◌<◌}
use native.Mathlib.Nat.{mod-eq_of_lt, mod-lt, mul-add-mod_self_right}
use native.Mathlib.Omega.{arith}
use native.Mathlib.Decide.{dec_lt}
use mathlib.Core.Bool.{Bool, true, false, not, cond}
use mathlib.Core.List.{List, [], ◌∷◌}
use lib.Dec.{eqb, ltb}
use borrow.Author.Tests.{eqb-true, ltb-false, not-false}
use lib.ListN.{length, get_or, drop, length-map}
use Rattle.lists.specs.Below.{keep_below}
use Rattle.lists.specs.Parts.{all_are, part}
use Rattle.lists.proofs.Joins.{all_are_part}
use Rattle.lists.proofs.Parts.{next, part_length}
use Rattle.lists.proofs.Ranks.{keep_length, keep_nth, map_at}
use Rattle.lists.proofs.Tests.{never, so}
use Rattle.lists.proofs.Searches.{first_spec}
use Rattle.rules.specs.declared.Params.{Params}
use Rattle.rules.specs.declared.Reply.TheVariants.{Accepted}
use Rattle.rules.specs.Parameters.{frame_bytes, frames, page_bytes, pages}
use Rattle.rules.specs.Numbers.{region_of}
use Rattle.rules.specs.Tables.{Board, bt_at, none}
use Rattle.rules.specs.Pages.{filled, frame, held, page, programmed, spare, spare_bytes, stamp_of}
use Rattle.rules.specs.Regions.{assigned, valid, valid_frames, view}
use Rattle.rules.specs.Traces.{erase_ops, erase_where, frame_ops, frames_ops, mark, program, worn}
use Rattle.rules.specs.Write.{plan_erases, Plan, continues, copies, victim_ops, has_room, lowest_unassigned, new_frame, opens, plan_block, plan_frame, plan_of, plan_ops, plan_vblock, reclaims, room_ops, write_ops, next_stamp}
use Rattle.rules.specs.Replies.{reply_of}
use Rattle.rules.specs.Words.{SpareListed}
use Rattle.rules.specs.Requests.{Request, write, request_cluster}
use Rattle.rules.proofs.Admitted.{admitted, stamp_left, write_checks, write_free}
use Rattle.rules.proofs.Continues.{Makes}
use Rattle.rules.proofs.Frames.{erased_not}
use Rattle.rules.proofs.FramePut.{Sheet}
use Rattle.rules.proofs.NewFrames.{host_sheet}
use Rattle.rules.proofs.RegionFacts.{Neat, neat, good_all, good_stamp}
use Rattle.rules.proofs.Replays.{one_fits}
use Rattle.rules.proofs.Sizes.{Sizes, some_page}
use Rattle.rules.proofs.TableFacts.{Tables}
use Rattle.rules.proofs.ValidFrames.{valid_holds}
use Rattle.rules.proofs.Victims.{Valid, valid_in}
use Rattle.rules.proofs.Views.{block_low_lem, body_size, has_block}
use Rattle.rules.proofs.Words.{spares_exactly}
use Rattle.rules.proofs.WritePromise.{makes}
use Rattle.claims.specs.Runs.{AllFit, Fits}
use Rattle.claims.proofs.Once.{fit_append, fit_join}

-- ---- blocks of the chip are erased

-- and marked
one_fits_block : (p : Params) → Sizes p → (wear : List ℕ) (n : ℕ) → n < p.N → AllFit p (erase_ops p wear n)
unfolding erase_ops
one_fits_block p z wear n h = (h, go (worn p wear n))
  where
    go : (t : Bool) → AllFit p (cond t (mark n ∷ []) [])
    go true = ((h, some_page p z), tt)
    go false = tt

pub erases_fit : (p : Params) → Sizes p → (wear : List ℕ) (f : ℕ → Bool) → AllFit p (erase_where p wear f)
unfolding erase_where
erases_fit p z wear f = fit_join p p.N _ (λ n h. go n h (f n))
  where
    go : (n : ℕ) → n < p.N → (t : Bool) → AllFit p (cond t (erase_ops p wear n) [])
    go n h true = one_fits_block p z wear n h
    go n h false = tt

-- ---- a frame's programs

-- a whole frame whose pages all have the spare bytes of one cluster of the board, one stamp and one virtual block
pub record Whole (p : Params) (x : List ℕ) : Type 0 where
  pub whole : length x ≡ frame_bytes p
  pub cluster : ℕ
  pub low : cluster < p.C
  pub stamp : ℕ
  pub early : stamp < 4294967296
  pub vblock : ℕ
  pub mine : vblock < p.gamma
  pub spares : (j : ℕ) → j < p.alpha → spare p x j ≡ spare_bytes cluster j stamp vblock

module _ (p : Params) (z : Sizes p) (n : ℕ) (low : n < p.N) where
  frame_fits : (f : ℕ) (x : List ℕ) → f < frames p → Whole p x → AllFit p (frame_ops p n f x p.alpha)
  unfolding frame_ops
  frame_fits f x h m = fit_join p p.alpha _ (λ j k. (one j k, tt))
    where
      place : (j : ℕ) → j < p.alpha → (f * p.alpha + j) % p.alpha ≡ j
      place j k = rw mul-add-mod_self_right (mod-eq_of_lt k)

      listed : (j : ℕ) → j < p.alpha → SpareListed m.cluster ((f * p.alpha + j) % p.alpha) m.stamp m.vblock (drop p.s (page p x j))
      listed j k = rw (place j k) (unfold spare in (spares_exactly m.cluster j m.stamp m.vblock (omega (arith, m.low, z.clusters)) m.early (spare p x j)).0 (m.spares j k))

      long : (j : ℕ) → j < p.alpha → length (page p x j) ≡ p.s + 16
      long j k = unfold page page_bytes in part_length (page_bytes p) j x (rw m.whole (unfold frame_bytes in next (page_bytes p) j p.alpha k))

      one : (j : ℕ) → j < p.alpha → Fits p (program n (f * p.alpha + j) (page p x j))
      one j k = (low, unfold pages in omega (arith, next p.alpha f (frames p) h), long j k, (m.cluster, m.stamp, m.vblock, m.low, m.mine, listed j k))

  frames_fit : (xs : List (List ℕ)) (to : ℕ) → to + length xs ≤ frames p → ((i : ℕ) → i < length xs → Whole p (get_or xs i [])) → AllFit p (frames_ops p n to xs)
  unfolding frames_ops
  frames_fit [] to h m = tt
  frames_fit (x ∷ xs) to h m = fit_append p (frame_ops p n to x p.alpha) _ (frame_fits to x (omega arith) (m 0 (omega arith))) (frames_fit xs (suc to) (omega arith) (λ i k. m (suc i) (omega arith)))

-- ---- the copies of a reclaim have their spare bytes

module _ (p : Params) (z : Sizes p) (b : Board) (t : Tables p b) (r : ℕ) (region : r < p.mu) (nt : Neat p r (view p b r)) (v : ℕ) (mine : v < p.gamma) where
  -- a block without a physical one has no programmed frame
  none_written : (f : ℕ) → assigned (view p b r) v ≡ false → programmed p (frame p ((view p b r).body v) f) ≡ false
  unfolding assigned frame
  none_written f a = erased_not p _ (empty ((view p b r).body v) a)
    where
      empty : (l : List ℕ) → ltb 0 (length l) ≡ false → all_are 255 (part (frame_bytes p) f l) ≡ true
      empty [] e = all_are_part 255 (frame_bytes p) f [] (unfold all_are in refl)
      empty (y ∷ l) e = absurd (omega (arith, ltb-false 0 (length (y ∷ l)) e))

  valid_spares : (f : ℕ) → f < frames p → Valid p (view p b r) v f → Whole p (frame p ((view p b r).body v) f)
  valid_spares f h w = go (so (assigned (view p b r) v))
    where
      go : (assigned (view p b r) v ≡ true) ⊎ (assigned (view p b r) v ≡ false) → Whole p (frame p ((view p b r).body v) f)
      go (inr a) = absurd (never w.written (none_written f a))
      go (inl a) = pick (dec_lt f (filled p ((view p b r).body v)))
        where
          pick : Dec (f < filled p ((view p b r).body v)) → Whole p (frame p ((view p b r).body v) f)
          pick (yes k) =
              let g = (nt.blocks v mine a).1.front f k h in
              record {
                whole = unfold frame in part_length (frame_bytes p) f ((view p b r).body v)
                    (one_fits p ((view p b r).body v) f (body_size p z b t r v region mine a) h);
                cluster = held p (frame p ((view p b r).body v) f);
                low = g.low;
                stamp = stamp_of p (frame p ((view p b r).body v) f);
                early = good_stamp p z r v (frame p ((view p b r).body v) f) g;
                vblock = v;
                mine = mine;
                spares = good_all p z r v (frame p ((view p b r).body v) f) g _ (valid_holds p z (view p b r) v f h w);
              }
          pick (no k) = absurd (never w.written (erased_not p _ ((nt.blocks v mine a).1.rest f (omega arith) h)))

  copies_spares : (i : ℕ) → i < length (copies p (view p b r) (reclaims v)) → Whole p (get_or (copies p (view p b r) (reclaims v)) i [])
  unfolding copies valid_frames
  copies_spares i h =
      let k : i < length (keep_below (frames p) (valid p (view p b r) v)) = rw length-map at h in
      let w = keep_nth (frames p) (valid p (view p b r) v) i 0 (rw keep_length at k) in
      rw (map_at (frame p ((view p b r).body v)) (keep_below (frames p) (valid p (view p b r) v)) i 0 [] k)
      (valid_spares _ w.0 (valid_in p (view p b r) v _ w.1))

-- ---- a write's operations

module _ (p : Params) (z : Sizes p) (b : Board) (t : Tables p b) (r : ℕ) (region : r < p.mu) (nt : Neat p r (view p b r)) where
  -- a reclaim is planned where every virtual block has a physical one
  all_assigned : (v : ℕ) → plan_of p (view p b r) ≡ reclaims v → (u : ℕ) → u < p.gamma → assigned (view p b r) u ≡ true
  unfolding plan_of lowest_unassigned
  all_assigned v e u h = go (so (has_room p (view p b r))) (so (eqb (lowest_unassigned p (view p b r)) none)) e
    where
      other : (pl : Plan) → pl ≡ reclaims v → plan_erases pl ≡ 0 → ⊥
      other pl i k = let one : plan_erases (reclaims v) ≡ 1 = unfold plan_erases in refl in omega (arith, sym (ap plan_erases i) ∙ k)

      found : ((lowest_unassigned p (view p b r) ≡ none) × ((i : ℕ) → i < p.gamma → not (assigned (view p b r) i) ≡ false))
          ⊎ ((lowest_unassigned p (view p b r) < p.gamma) × (not (assigned (view p b r) (lowest_unassigned p (view p b r))) ≡ true)) → lowest_unassigned p (view p b r) ≡ none
          → assigned (view p b r) u ≡ true
      found (inl w) k = not-false _ (w.1 u h)
      found (inr w) k = absurd (omega (arith, w.0, k, z.gamma_high))

      go : (has_room p (view p b r) ≡ true) ⊎ (has_room p (view p b r) ≡ false) → (eqb (lowest_unassigned p (view p b r)) none ≡ true) ⊎ (eqb (lowest_unassigned p (view p b r)) none ≡ false)
          → plan_of p (view p b r) ≡ reclaims v → assigned (view p b r) u ≡ true
      go (inl a) s k = absurd (other _ (rw a at k) (unfold plan_erases in refl))
      go (inr a) (inr s) k = absurd (other _ (rw (a, s) at k) (unfold plan_erases in refl))
      go (inr a) (inl s) k = found (first_spec none p.gamma (λ v. not (assigned (view p b r) v)) (omega (arith, z.gamma_high))) (eqb-true _ _ s)

  room_fits : (pl : Plan) → plan_of p (view p b r) ≡ pl → Makes p b r pl → AllFit p (room_ops p b r pl)
  unfolding room_ops copies frames_ops victim_ops
  room_fits (continues v f) is m = tt
  room_fits (opens v) is m = tt
  room_fits (reclaims v) is m =
      fit_append p (frames_ops p (plan_block p b r (reclaims v)) 0 (copies p (view p b r) (reclaims v))) _
      (frames_fit p z (plan_block p b r (reclaims v)) m.room.low (copies p (view p b r) (reclaims v)) 0 few (copies_spares p z b t r region nt v mine))
      (one_fits_block p z b.wear (bt_at p b.bt r v) (block_low_lem p z b t r v region mine (has_block p z b t r v region mine (all_assigned v is v mine))))
    where
      mine : v < p.gamma
      mine = unfold plan_vblock in m.base.ready.mine

      few : 0 + length (copies p (view p b r) (reclaims v)) ≤ frames p
      few = unfold copies plan_frame in omega (arith, m.base.ready.low, length-map (valid_frames p (view p b r) v) (frame p ((view p b r).body v)))

pub write_fits : (p : Params) (b : Board) (q : Request) → reply_of p b (write q) ≡ Accepted → AllFit p (write_ops p b q)
unfolding write_ops plan_ops
write_fits p b q e =
    let acc = admitted p b q (write_checks p b q e) in
    let r = region_of p (request_cluster p q) in
    let region : r < p.mu = mod-lt (request_cluster p q) acc.sized.regions in
    let nt = neat p r (view p b r) (acc.tidy r region) in
    let pl = plan_of p (view p b r) in
    let m : Makes p b r pl = makes p acc.sized b acc.tables r region nt (write_free p b q e) in
    let sh : Sheet p (plan_vblock pl) (request_cluster p q) (new_frame p (view p b r) q (next_stamp b r) (plan_vblock pl)) =
    host_sheet p acc.sized (view p b r) (λ v h a. body_size p acc.sized b acc.tables r v region h a) q acc.asked (nt.entries (request_cluster p q) acc.asked.cluster)
    (next_stamp b r) (plan_vblock pl) (stamp_left p b q e) in
    fit_append p (room_ops p b r pl) _ (room_fits p acc.sized b acc.tables r region nt pl refl m)
    (frame_fits p acc.sized (plan_block p b r pl) m.room.low (plan_frame p (view p b r) pl) (new_frame p (view p b r) q (next_stamp b r) (plan_vblock pl)) m.base.ready.low
    (record {
      whole = sh.whole;
      cluster = request_cluster p q;
      low = acc.asked.cluster;
      stamp = sh.stamp;
      early = sh.early;
      vblock = plan_vblock pl;
      mine = m.base.ready.mine;
      spares = sh.spares;
    }))
