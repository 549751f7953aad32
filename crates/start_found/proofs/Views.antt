-- What the view of a region shows of the chip and BT as found, and where a frame that is counted through its virtual blocks stands.
-- Assumes nothing.
use mathlib.Core.Path.{◌≡◌, refl, sym, ◌∙◌}
use mathlib.Core.Bool.{Bool, true, false, not}
use mathlib.Core.List.{List, []}
use Prim.Native.Nat.{ℕ, ◌-◌, ◌/◌, ◌%◌, ◌≤◌, ◌<◌}
use native.Mathlib.Nat.{div-lt_iff_lt-mul, mod-lt, mul-le-mul}
use lib.Dec.{eqb}
use borrow.Author.Tests.{eqb-true, eq-eqb, lt-ltb, ne_eqb, not-false}
use Rattle.lists.specs.Parts.{all_are}
use Rattle.lists.proofs.Joins.{all_are_part}
use Rattle.lists.proofs.Tests.{and_right, never}
use Rattle.rules.specs.declared.Params.{Params}
use Rattle.rules.specs.Parameters.{allowed, frames, frame_bytes}
use Rattle.rules.specs.Tables.{bt_at, none}
use Rattle.rules.specs.Numbers.{region_of}
use Rattle.rules.specs.Pages.{block, frame, held, holds, le32, spare, whole}
use Rattle.rules.specs.Regions.{View, body_at, frame_in, region_frames, view_of}
use Rattle.rules.specs.Start.{found_view}
use Rattle.rules.proofs.Sizes.{Sizes, sizes}
use Rattle.rules.proofs.Frames.{erased_holds}
use Rattle.rules.proofs.RegionFacts.{GoodFrame, good_holds, whole_good}
use Rattle.start_found.specs.Found.{Found, HasFrame}

-- ---- a virtual block

module _ (p : Params) (chip bt : List ℕ) (r v : ℕ) (low : v < p.gamma) where
  pub body_none : bt_at p bt r v ≡ none → (found_view p chip bt r).body v ≡ []
  unfolding found_view view_of body_at
  body_none e = rw (lt-ltb v p.gamma low, e)

  pub body_some : (bt_at p bt r v ≡ none → ⊥) → (found_view p chip bt r).body v ≡ block p chip (bt_at p bt r v)
  unfolding found_view view_of body_at
  body_some ne = rw (lt-ltb v p.gamma low, ne_eqb (bt_at p bt r v) none ne)

-- ---- a frame of the region

module _ (p : Params) (fine : allowed p ≡ true) where
  z : Sizes p
  z = sizes p fine

  -- there are few
  pub region_few : region_frames p ≤ 4096
  unfolding region_frames
  region_few = mul-le-mul z.gamma_high z.short

  -- its virtual block, and its place there
  module _ (i : ℕ) (low : i < region_frames p) where
    pub vblock_low_lem : i / frames p < p.gamma
    unfolding region_frames
    vblock_low_lem = (div-lt_iff_lt-mul z.some).1 low

    pub place_low : i % frames p < frames p
    place_low = mod-lt i z.some

    -- where the virtual block has no block, the frame has no bytes
    pub frame_none : (chip bt : List ℕ) (r : ℕ) → bt_at p bt r (i / frames p) ≡ none → all_are 255 (frame_in p (found_view p chip bt r) i) ≡ true
    unfolding frame_in frame all_are
    frame_none chip bt r e = rw (body_none p chip bt r (i / frames p) vblock_low_lem e) (all_are_part 255 (frame_bytes p) (i % frames p) [] refl)

    pub frame_some : (chip bt : List ℕ) (r : ℕ) → (bt_at p bt r (i / frames p) ≡ none → ⊥)
        → frame_in p (found_view p chip bt r) i ≡ frame p (block p chip (bt_at p bt r (i / frames p))) (i % frames p)
    unfolding frame_in
    frame_some chip bt r ne = rw (body_some p chip bt r (i / frames p) vblock_low_lem ne)

  -- over the numbers that the code has
  module _ (i f : ℕ) (low : i < region_frames p) (is : f ≡ frames p) where
    pub divisor : 0 < f
    divisor = rw is z.some

    pub vblock_is_low : i / f < p.gamma
    vblock_is_low = rw is (vblock_low_lem i low)

    pub place_is_low : i % f < frames p
    place_is_low = rw is (place_low i low)

module _ (p : Params) (chip bt : List ℕ) (a : Found p chip bt) (r i : ℕ) (h : HasFrame p bt r i) (f n : ℕ) (is : f ≡ frames p) (named : n ≡ bt_at p bt r (i / f)) where
  pub block_low_lem : n < p.N
  block_low_lem = rw (named, is) (a.named r (i / frames p) h.region (vblock_low_lem p a.fine i h.low) h.has).0

  pub frame_is : (blk fr : List ℕ) → blk ≡ block p chip n → fr ≡ frame p blk (i % f) → fr ≡ frame_in p (found_view p chip bt r) i
  frame_is blk fr e g = g ∙ rw (e, named, is) (sym (frame_some p a.fine i h.low chip bt r h.has))

-- ---- what stands in it

module _ (p : Params) (chip bt : List ℕ) (a : Found p chip bt) (r i : ℕ) where
  abbrev vw : View
  vw = found_view p chip bt r

  -- a frame that holds a cluster has a block
  pub holder_has : r < p.mu → i < region_frames p → (c : ℕ) → holds p (frame_in p vw i) c ≡ true → HasFrame p bt r i
  holder_has region low c h =
      record { region = region; low = low; has = λ e. never h (erased_holds p (frame_in p vw i) c (frame_none p a.fine i low chip bt r e)) }

  -- a whole frame is a good one
  good_here : HasFrame p bt r i → whole p (frame_in p vw i) ≡ true → GoodFrame p r (i / frames p) (frame_in p vw i)
  good_here h w =
      let at = frame_some p a.fine i h.low chip bt r h.has in
      let rule = (a.named r (i / frames p) h.region (vblock_low_lem p a.fine i h.low) h.has).1 in
      rw at (whole_good p r (i / frames p) _ rule (i % frames p) (place_low p a.fine i h.low) (rw at at w))

  -- what its last page says is a cluster of the region
  pub whole_cluster : HasFrame p bt r i → whole p (frame_in p vw i) ≡ true → (c : ℕ) → c ≡ le32 (spare p (frame_in p vw i) (p.alpha - 1)) → (c < p.C) × (region_of p c ≡ r)
  unfolding holds
  whole_cluster h w c e =
      let g = good_here h w in
      let same : c ≡ held p (frame_in p vw i) = e ∙ eqb-true _ _ (and_right (whole p (frame_in p vw i)) (good_holds p (sizes p a.fine) r (i / frames p) _ g w)) in
      (rw same g.low, rw same g.mine)

-- what `has_frame` finds
pub found_frame : (p : Params) (bt : List ℕ) (r i : ℕ) → r < p.mu → i < region_frames p → (ok : Bool) → ok ≡ not (eqb (bt_at p bt r (i / frames p)) none) → not ok ≡ false → HasFrame p bt r i
found_frame p bt r i region low ok is t = record { region = region; low = low; has = λ e. never (sym is ∙ not-false ok t) (rw (eq-eqb (bt_at p bt r (i / frames p)) none e)) }
