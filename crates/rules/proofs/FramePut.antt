-- A frame put into a region's view: what is read after it.
-- Assumes nothing.
use mathlib.Core.Path.{◌≡◌, refl, sym}
use mathlib.Core.Logic.{◌⊎◌, inl, inr}
use Prim.Native.Nat.{ℕ, ◌+◌, ◌-◌, ◌*◌, ◌/◌, ◌≤◌, ◌<◌}
use native.Mathlib.Omega.{arith}
use native.Mathlib.Decide.{ℕ_discrete}
use mathlib.Core.Bool.{Bool, true, false, ◌&&◌}
use mathlib.Core.List.{List}
use lib.Dec.{eqb}
use borrow.Author.Tests.{eqb-true, eq-eqb, ne_eqb}
use lib.ListN.{length, take}
use Rattle.lists.specs.Parts.{all_are}
use Rattle.lists.proofs.Joins.{updated_other, updated_same}
use Rattle.lists.proofs.Parts.{next, put_other, put_same}
use Rattle.lists.proofs.Tests.{and_left, and_right, last_cong, last_is, last_passes, never}
use Rattle.rules.specs.declared.Params.{Params}
use Rattle.rules.specs.Parameters.{block_bytes, frame_bytes, frames}
use Rattle.rules.specs.Numbers.{place_of, segment_of, vblock_of}
use Rattle.rules.specs.Tables.{none}
use Rattle.rules.specs.Pages.{frame, held, holds, last_in, page, spare, spare_bytes, stamp_of, whole}
use Rattle.rules.specs.Regions.{View, frame_of, sector_in}
use Rattle.rules.specs.Machine.{with_frame}
use Rattle.rules.proofs.Frames.{erased_holds, right_cluster, right_held, right_stamp, right_used, seg_low, seg_place, seg_vblock}
use Rattle.rules.proofs.Sizes.{Sizes}

-- frame f of virtual block v is the next to be written
pub record Ready (p : Params) (vw : View) (v f : ℕ) : Type 0 where
  pub low : f < frames p
  pub mine : v < p.gamma
  pub size : length (vw.body v) ≡ block_bytes p
  pub rest : (g : ℕ) → f ≤ g → g < frames p → all_are 255 (frame p (vw.body v) g) ≡ true

-- a whole frame with the spare bytes of cluster c, in virtual block v, and one stamp
pub record Sheet (p : Params) (v c : ℕ) (x : List ℕ) : Type 0 where
  pub whole : length x ≡ frame_bytes p
  pub small : c < 4294967296
  pub stamp : ℕ
  pub early : stamp < 4294967296
  pub spares : (j : ℕ) → j < p.alpha → spare p x j ≡ spare_bytes c j stamp v

module _ (p : Params) (z : Sizes p) (v c : ℕ) (x : List ℕ) (sheet : Sheet p v c x) where
  pub sheet_held : held p x ≡ c
  sheet_held = right_held p x c sheet.stamp v (sheet.spares 0 z.sectors) sheet.small

  pub sheet_stamp : stamp_of p x ≡ sheet.stamp
  unfolding stamp_of
  sheet_stamp = right_stamp p x 0 c sheet.stamp v (sheet.spares 0 z.sectors) sheet.early

  last_page : p.alpha - 1 < p.alpha
  last_page = omega (arith, z.sectors)

  pub sheet_holds : (d : ℕ) → holds p x d ≡ eqb c d
  unfolding holds whole
  sheet_holds d =
      rw (
        right_used p x (p.alpha - 1) c sheet.stamp v (sheet.spares (p.alpha - 1) last_page),
        right_cluster p x (p.alpha - 1) c sheet.stamp v (sheet.spares (p.alpha - 1) last_page) sheet.small,
      )

-- the cluster's CT entry, if any, names a segment that holds it
unfoldable pub Named : Params → View → ℕ → Type 0
Named p vw c = (vw.seg_of c ≡ none) ⊎ (last_in p (vw.body (vblock_of p (vw.seg_of c))) (place_of p (vw.seg_of c)) c < frames p)

-- the last frame that holds a cluster lies in the place, and holds it
pub last_holds : (p : Params) (z : Sizes p) (blk : List ℕ) (k c : ℕ) → last_in p blk k c < frames p
    → (last_in p blk k c / p.beta ≡ k) × (holds p (frame p blk (last_in p blk k c)) c ≡ true)
unfolding last_in
last_holds p z blk k c h =
    let t = (last_passes none (frames p) (λ f. eqb (f / p.beta) k && holds p (frame p blk f) c) (λ n. omega (arith, z.short))).0 in
    (eqb-true _ k (and_left (eqb (last_in p blk k c / p.beta) k) _ t), and_right (eqb (last_in p blk k c / p.beta) k) t)

module _ (p : Params) (z : Sizes p) (vw : View) (v f c : ℕ) (x : List ℕ) (ready : Ready p vw v f) (sheet : Sheet p v c x) where
  fits : f * frame_bytes p + frame_bytes p ≤ length (vw.body v)
  unfolding block_bytes
  fits = rw ready.size (next (frame_bytes p) f (frames p) ready.low)

  pub frame_new : frame p ((with_frame p vw v f c x).body v) f ≡ x
  unfolding with_frame frame
  frame_new = rw (updated_same, put_same (frame_bytes p) f x (vw.body v) fits sheet.whole)

  pub frame_old : (g : ℕ) → (g ≡ f → ⊥) → frame p ((with_frame p vw v f c x).body v) g ≡ frame p (vw.body v) g
  unfolding with_frame frame
  frame_old g ne = rw updated_same (put_other (frame_bytes p) f x (vw.body v) fits sheet.whole g ne)

  -- the written cluster's last frame in its place is the written one
  pub last_new : last_in p ((with_frame p vw v f c x).body v) (f / p.beta) c ≡ f
  unfolding last_in
  last_new =
      last_is none (frames p) _ f ready.low
      (rw (frame_new, eq-eqb (f / p.beta) (f / p.beta) refl, sheet_holds p z v c x sheet c, eq-eqb c c refl))
      (λ g a b. rw (frame_old g (omega arith), erased_holds p (frame p (vw.body v) g) c (ready.rest g (omega arith) b)) (none_pass (eqb (g / p.beta) (f / p.beta))))
    where
      none_pass : (t : Bool) → t && false ≡ false
      none_pass true = refl
      none_pass false = refl

  -- another cluster's is what it was
  same_test : (c' : ℕ) → (c' ≡ c → ⊥) → (g : ℕ) → g < frames p → holds p (frame p ((with_frame p vw v f c x).body v) g) c' ≡ holds p (frame p (vw.body v) g) c'
  unfolding holds
  same_test c' ne g h = go (ℕ_discrete g f)
    where
      go : Dec (g ≡ f) → holds p (frame p ((with_frame p vw v f c x).body v) g) c' ≡ holds p (frame p (vw.body v) g) c'
      go (yes e) =
          rw (e, frame_new, erased_holds p (frame p (vw.body v) f) c' (ready.rest f (omega arith) ready.low), sheet_holds p z v c x sheet c') (ne_eqb c c' (λ k. ne (sym k)))
      go (no e) = rw (frame_old g e)

  pub last_old : (c' : ℕ) → (c' ≡ c → ⊥) → (k : ℕ) → last_in p ((with_frame p vw v f c x).body v) k c' ≡ last_in p (vw.body v) k c'
  unfolding last_in
  last_old c' ne k = last_cong none (frames p) _ _ (λ g h. rw (same_test c' ne g h))

  pub seg_new : (with_frame p vw v f c x).seg_of c ≡ segment_of p v f
  unfolding with_frame
  seg_new = updated_same vw.seg_of c (segment_of p v f)

  pub seg_old : (c' : ℕ) → (c' ≡ c → ⊥) → (with_frame p vw v f c x).seg_of c' ≡ vw.seg_of c'
  unfolding with_frame
  seg_old c' ne = updated_other vw.seg_of c (segment_of p v f) c' ne

  pub body_old : (u : ℕ) → (u ≡ v → ⊥) → (with_frame p vw v f c x).body u ≡ vw.body u
  unfolding with_frame
  body_old u ne = updated_other vw.body v _ u ne

  -- what is read
  pub read_new : (j : ℕ) → sector_in p (with_frame p vw v f c x) c j ≡ take p.s (page p x j)
  unfolding sector_in frame_of
  read_new j =
      rw (
        seg_new,
        ne_eqb (segment_of p v f) none (λ e. omega (arith, seg_low p z v f ready.low ready.mine, z.few)),
        seg_vblock p z v f ready.low,
        seg_place p z v f
            ready.low,
        last_new,
        frame_new,
      )

  frames_differ : (k c' : ℕ) → last_in p (vw.body v) k c' < frames p → last_in p (vw.body v) k c' ≡ f → ⊥
  unfolding holds
  frames_differ k c' h e =
      let t : holds p (frame p (vw.body v) f) c' ≡ true = rw e at (last_holds p z (vw.body v) k c' h).1 in
      never t (erased_holds p (frame p (vw.body v) f) c' (ready.rest f (omega arith) ready.low))

  pub same_frame : (c' : ℕ) → (c' ≡ c → ⊥) → (u k : ℕ) → last_in p (vw.body u) k c' < frames p
      → frame p ((with_frame p vw v f c x).body u) (last_in p ((with_frame p vw v f c x).body u) k c') ≡ frame p (vw.body u) (last_in p (vw.body u) k c')
  same_frame c' ne u k h = go (ℕ_discrete u v)
    where
      go : Dec (u ≡ v) → frame p ((with_frame p vw v f c x).body u) (last_in p ((with_frame p vw v f c x).body u) k c') ≡ frame p (vw.body u) (last_in p (vw.body u) k c')
      go (yes e) = rw (e, last_old c' ne k) (frame_old _ (frames_differ k c' (rw e at h)))
      go (no e) = rw (body_old u e)

  pub read_old : (c' : ℕ) → (c' ≡ c → ⊥) → Named p vw c' → (j : ℕ) → sector_in p (with_frame p vw v f c x) c' j ≡ sector_in p vw c' j
  unfolding sector_in frame_of Named
  read_old c' ne (inl e) j = rw (seg_old c' ne, e)
  read_old c' ne (inr h) j = rw (seg_old c' ne, same_frame c' ne (vblock_of p (vw.seg_of c')) (place_of p (vw.seg_of c')) h)
