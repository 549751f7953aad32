-- A frame put into a region leaves its rules standing.
-- Assumes nothing.
use mathlib.Core.Path.{◌≡◌, refl, sym, ap, ◌∙◌}
use mathlib.Core.Logic.{◌⊎◌, inl, inr}
use Prim.Native.Nat.{ℕ, suc, ◌/◌, ◌<◌}
use native.Mathlib.Omega.{arith}
use native.Mathlib.Decide.{ℕ_discrete}
use mathlib.Core.Bool.{true}
use mathlib.Core.List.{List}
use borrow.Author.Tests.{lt-ltb}
use lib.ListN.{length}
use Rattle.lists.proofs.Joins.{updated_same}
use Rattle.lists.proofs.Parts.{next, put_length}
use Rattle.lists.proofs.Tests.{count_is}
use Rattle.rules.specs.declared.Params.{Params}
use Rattle.rules.specs.Parameters.{block_bytes, frame_bytes, frames, page_bytes}
use Rattle.rules.specs.Numbers.{place_of, region_of, segment_of, vblock_of}
use Rattle.rules.specs.Tables.{none}
use Rattle.rules.specs.Pages.{filled, frame, held, last_in}
use Rattle.rules.specs.Regions.{View, assigned}
use Rattle.rules.specs.Machine.{with_frame}
use Rattle.rules.specs.Orderly.{used_pages}
use Rattle.rules.proofs.FramePut.{Ready, Sheet, sheet_held, sheet_stamp, body_old, frame_new, frame_old, last_new, last_old, seg_new, seg_old}
use Rattle.rules.proofs.Sizes.{Sizes}
use Rattle.rules.proofs.Frames.{right_programmed, right_used, seg_low, seg_place, seg_vblock}
use Rattle.rules.proofs.RegionFacts.{region_orderly, Entry, Fronts, GoodFrame, Open, UpTo, neat_out, up_to_filled}

-- the region is orderly but that the block of frame f may be empty so far, and every other is full
pub record Base (p : Params) (r : ℕ) (vw : View) (v f : ℕ) : Type 0 where
  pub ready : Ready p vw v f
  pub front : UpTo p r v f (vw.body v)
  pub others : (u : ℕ) → u < p.gamma → (u ≡ v → ⊥) → assigned vw u ≡ true → (filled p (vw.body u) ≡ frames p) × UpTo p r u (frames p) (vw.body u)
  pub entries : (c : ℕ) → c < p.C → (vw.seg_of c ≡ none) ⊎ Entry p vw c

pub base_fronts : (p : Params) (z : Sizes p) (r : ℕ) (vw : View) (v f : ℕ) → Base p r vw v f → Fronts p r vw
base_fronts p z r vw v f base u h a = go (ℕ_discrete u v)
  where
    go : Dec (u ≡ v) → UpTo p r u (filled p (vw.body u)) (vw.body u)
    go (yes e) = rw (e, up_to_filled p z r v f (vw.body v) (omega (arith, base.ready.low)) base.front) base.front
    go (no ne) = let w = base.others u h ne a in rw w.0 w.1

module _ (p : Params) (z : Sizes p) (r : ℕ) (vw : View) (v f c : ℕ) (x : List ℕ) (base : Base p r vw v f) (sheet : Sheet p v c x) (low : c < p.C) (mine : region_of p c ≡ r) where
  all_used : used_pages p x ≡ p.alpha
  unfolding used_pages
  all_used = count_is p.alpha p.alpha _ (omega arith) (λ j h. right_used p x j c sheet.stamp v (sheet.spares j h)) (λ j a b. absurd (omega arith))

  good : GoodFrame p r v x
  good =
      let e : held p x ≡ c = sheet_held p z v c x sheet in
      record {
        on = right_programmed p x c sheet.stamp v (sheet.spares 0 z.sectors);
        low = rw e low;
        mine = rw e mine;
        spares = λ j m h. rw (e, sheet_stamp p z v c x sheet) (sheet.spares j h);
        blank = λ j m h. absurd (omega (arith, all_used));
      }

  up_to_new : UpTo p r v (suc f) ((with_frame p vw v f c x).body v)
  up_to_new = record { front = λ g a b. front g a b (ℕ_discrete g f); rest = λ g a b. rw (frame_old p z vw v f c x base.ready sheet g (omega arith)) (base.ready.rest g (omega arith) b) }
    where
      front : (g : ℕ) → g < suc f → g < frames p → Dec (g ≡ f) → GoodFrame p r v (frame p ((with_frame p vw v f c x).body v) g)
      front g a b (yes e) = rw (e, frame_new p z vw v f c x base.ready sheet) good
      front g a b (no e) = rw (frame_old p z vw v f c x base.ready sheet g e) (base.front.front g (omega arith) b)

  pub filled_new : filled p ((with_frame p vw v f c x).body v) ≡ suc f
  filled_new = up_to_filled p z r v (suc f) _ base.ready.low up_to_new

  some_bytes : 0 < block_bytes p
  unfolding block_bytes frame_bytes page_bytes
  some_bytes = omega (arith, next (frame_bytes p) f (frames p) base.ready.low, next (page_bytes p) 0 p.alpha z.sectors)

  size_new : length ((with_frame p vw v f c x).body v) ≡ block_bytes p
  unfolding with_frame block_bytes
  size_new =
      rw updated_same (put_length (frame_bytes p) f x (vw.body v) (rw base.ready.size (next (frame_bytes p) f (frames p) base.ready.low)) sheet.whole ∙ base.ready.size)

  has_new : assigned (with_frame p vw v f c x) v ≡ true
  unfolding assigned
  has_new = rw size_new (lt-ltb 0 (block_bytes p) some_bytes)

  has_old : (u : ℕ) → assigned vw u ≡ true → assigned (with_frame p vw v f c x) u ≡ true
  has_old u a = go (ℕ_discrete u v)
    where
      go : Dec (u ≡ v) → assigned (with_frame p vw v f c x) u ≡ true
      go (yes e) = rw e has_new
      go (no e) = unfold assigned in rw (body_old p z vw v f c x base.ready sheet u e) (unfold assigned in a)

  was : (u : ℕ) → (u ≡ v → ⊥) → assigned (with_frame p vw v f c x) u ≡ true → assigned vw u ≡ true
  unfolding assigned
  was u ne a = rw (body_old p z vw v f c x base.ready sheet u ne) at a

  blocks : (u : ℕ) → u < p.gamma → assigned (with_frame p vw v f c x) u ≡ true
      → (0 < filled p ((with_frame p vw v f c x).body u)) × UpTo p r u (filled p ((with_frame p vw v f c x).body u)) ((with_frame p vw v f c x).body u)
  blocks u h a = go (ℕ_discrete u v)
    where
      go : Dec (u ≡ v) → (0 < filled p ((with_frame p vw v f c x).body u)) × UpTo p r u (filled p ((with_frame p vw v f c x).body u)) ((with_frame p vw v f c x).body u)
      go (yes e) = rw (e, filled_new) (omega arith, up_to_new)
      go (no e) = let k = base.others u h e (was u e a) in rw (body_old p z vw v f c x base.ready sheet u e, k.0) (omega (arith, base.ready.low), k.1)

  last_is : (with_frame p vw v f c x).last_seg ≡ segment_of p v f
  unfolding with_frame
  last_is = refl

  open_v : vblock_of p (with_frame p vw v f c x).last_seg ≡ v
  open_v = ap (vblock_of p) last_is ∙ seg_vblock p z v f base.ready.low

  opened : Open p (with_frame p vw v f c x)
  opened =
      record {
        low = rw last_is (seg_low p z v f base.ready.low base.ready.mine);
        has = rw open_v has_new;
        last = rw (open_v, filled_new) (last_is ∙ ap (segment_of p v) (omega arith));
        full = full;
      }
    where
      full : (u : ℕ) → u < p.gamma → (u ≡ vblock_of p (with_frame p vw v f c x).last_seg → ⊥) → assigned (with_frame p vw v f c x) u ≡ true
          → filled p ((with_frame p vw v f c x).body u) ≡ frames p
      full u h ne a =
          let k : u ≡ v → ⊥ = λ e. ne (e ∙ sym open_v) in
          rw (body_old p z vw v f c x base.ready sheet u k) (base.others u h k (was u k a)).0

  entry_v : vblock_of p ((with_frame p vw v f c x).seg_of c) ≡ v
  entry_v = ap (vblock_of p) (seg_new p z vw v f c x base.ready sheet) ∙ seg_vblock p z v f base.ready.low

  entry_place : place_of p ((with_frame p vw v f c x).seg_of c) ≡ f / p.beta
  entry_place = ap (place_of p) (seg_new p z vw v f c x base.ready sheet) ∙ seg_place p z v f base.ready.low

  entry_new : Entry p (with_frame p vw v f c x) c
  entry_new =
      record {
        low = rw (seg_new p z vw v f c x base.ready sheet) (seg_low p z v f base.ready.low base.ready.mine);
        has = rw entry_v has_new;
        held = rw (entry_v, entry_place, last_new p z vw v f c x base.ready sheet) base.ready.low;
      }

  last_low : (c' : ℕ) → (c' ≡ c → ⊥) → (u k : ℕ) → last_in p (vw.body u) k c' < frames p → last_in p ((with_frame p vw v f c x).body u) k c' < frames p
  last_low c' ne u k h = go (ℕ_discrete u v)
    where
      go : Dec (u ≡ v) → last_in p ((with_frame p vw v f c x).body u) k c' < frames p
      go (yes e) = rw (e, last_old p z vw v f c x base.ready sheet c' ne k) (rw e at h)
      go (no e) = rw (body_old p z vw v f c x base.ready sheet u e) h

  entry_old : (c' : ℕ) → (c' ≡ c → ⊥) → Entry p vw c' → Entry p (with_frame p vw v f c x) c'
  entry_old c' ne k =
      let e = seg_old p z vw v f c x base.ready sheet c' ne in
      let g = ap (vblock_of p) e in
      record {
        low = rw e k.low;
        has = rw g (has_old _ k.has);
        held = rw (g, ap (place_of p) e) (last_low c' ne _ _ k.held);
      }

  entries : (c' : ℕ) → c' < p.C → ((with_frame p vw v f c x).seg_of c' ≡ none) ⊎ Entry p (with_frame p vw v f c x) c'
  entries c' h = go (ℕ_discrete c' c) (base.entries c' h)
    where
      go : Dec (c' ≡ c) → (vw.seg_of c' ≡ none) ⊎ Entry p vw c' → ((with_frame p vw v f c x).seg_of c' ≡ none) ⊎ Entry p (with_frame p vw v f c x) c'
      go (yes e) k = inr (rw e entry_new)
      go (no e) (inl k) = inl (seg_old p z vw v f c x base.ready sheet c' e ∙ k)
      go (no e) (inr k) = inr (entry_old c' e k)

  pub put_orderly : region_orderly p r (with_frame p vw v f c x) ≡ true
  put_orderly = neat_out p r (with_frame p vw v f c x) v base.ready.mine has_new blocks opened entries
