-- The rule of the stamps, frame by frame of the kept blocks: the frames of a region, counted through its virtual blocks, are those of the row's blocks.
-- Assumes nothing.
use mathlib.Core.Path.{◌≡◌, sym, ap, ◌∙◌}
use mathlib.Core.Logic.{⊎_elim}
use mathlib.Core.Bool.{true, false, not, and_comm}
use mathlib.Core.List.{List}
use Prim.Native.Nat.{ℕ, ◌+◌, ◌*◌, ◌<◌}
use native.Mathlib.Nat.{mod-eq_of_lt, mul-add-mod_self_right}
use native.Mathlib.Omega.{arith}
use lib.ListN.{get_or}
use borrow.Author.Tests.{lt-ltb}
use Rattle.lists.specs.Below.{all_below, all_true}
use Rattle.lists.proofs.Parts.{in_place}
use Rattle.lists.proofs.Tests.{all_below_intro, all_cong, all_rows, all_split, so}
use Rattle.rules.specs.declared.Params.{Params}
use Rattle.rules.specs.Parameters.{frames}
use Rattle.rules.specs.Tables.{bt_at, none}
use Rattle.rules.specs.Pages.{frame, held, stamp_of, whole}
use Rattle.rules.specs.Regions.{View, frame_in, region_frames, stamp_in, view_of}
use Rattle.rules.specs.Start.{found_view, same_stamp, stamps_apart}
use Rattle.rules.proofs.Sizes.{Sizes}
use Rattle.check_apart.specs.Apart.{block_apart, frame_apart, has, kept_apart, kept_body, lack_before, lacks}

module _ (p : Params) (z : Sizes p) (chip kept : List ℕ) (vw : View) (is : (v : ℕ) → v < p.gamma → vw.body v ≡ kept_body p chip kept v) where
  frame_at : (u g : ℕ) → u < p.gamma → g < frames p → frame_in p vw (u * frames p + g) ≡ frame p (kept_body p chip kept u) g
  unfolding frame_in
  frame_at u g hu hg =
      rw (in_place (frames p) u (u * frames p + g) z.some (omega arith) (omega arith), mul-add-mod_self_right u (frames p) g, mod-eq_of_lt hg, is u hu)

  -- over frame f of virtual block v
  module _ (v f : ℕ) (hv : v < p.gamma) (hf : f < frames p) where
    abbrev fr : List ℕ
    fr = frame p (kept_body p chip kept v) f

    abbrev i : ℕ
    i = v * frames p + f

    same_not : whole p fr ≡ false → (j : ℕ) → same_stamp p vw i j ≡ false
    unfolding same_stamp all_true
    same_not e j = rw (frame_at v f hv hf, e)

    same_is : whole p fr ≡ true → (u g : ℕ) → u < p.gamma → g < frames p
        → same_stamp p vw i (u * frames p + g) ≡ has p (held p fr) (stamp_of p fr) (frame p (kept_body p chip kept u) g)
    unfolding same_stamp stamp_in has all_true
    same_is e u g hu hg = rw (frame_at v f hv hf, e, frame_at u g hu hg)

    -- in the same block, and in those before
    own_is : whole p fr ≡ true → all_below f (λ g. not (same_stamp p vw i (v * frames p + g))) ≡ lacks p (held p fr) (stamp_of p fr) f (kept_body p chip kept v)
    unfolding lacks
    own_is e = all_cong f _ _ (λ g h. ap not (same_is e v g hv (omega arith)))

    before_is : whole p fr ≡ true → all_below (v * frames p) (λ j. not (same_stamp p vw i j)) ≡ lack_before p chip kept (held p fr) (stamp_of p fr) v
    unfolding lack_before lacks
    before_is e =
        all_rows (frames p) v (λ j. not (same_stamp p vw i j))
        ∙ all_cong v _ _ (λ u h. all_cong (frames p) _ _ (λ g k. ap not (same_is e u g (omega arith) k)))

    apart_whole : whole p fr ≡ true → all_below i (λ j. not (same_stamp p vw i j)) ≡ frame_apart p chip kept v f
    unfolding frame_apart
    apart_whole e =
        rw (all_split (v * frames p) f (λ j. not (same_stamp p vw i j)), own_is e, before_is e, e)
        (and_comm (lack_before p chip kept (held p fr) (stamp_of p fr) v) (lacks p (held p fr) (stamp_of p fr) f (kept_body p chip kept v)))

    apart_begun : whole p fr ≡ false → all_below i (λ j. not (same_stamp p vw i j)) ≡ frame_apart p chip kept v f
    unfolding frame_apart
    apart_begun e = rw e (all_below_intro i (λ j. not (same_stamp p vw i j)) (λ j h. ap not (same_not e j)))

    frame_is : all_below i (λ j. not (same_stamp p vw i j)) ≡ frame_apart p chip kept v f
    frame_is = ⊎_elim apart_whole apart_begun (so (whole p fr))

  apart_is : kept_apart p chip kept ≡ stamps_apart p vw
  unfolding kept_apart block_apart stamps_apart region_frames
  apart_is =
      sym
      (all_rows (frames p) p.gamma (λ i. all_below i (λ j. not (same_stamp p vw i j)))
      ∙ all_cong p.gamma _ _ (λ v h. all_cong (frames p) _ _ (λ f k. frame_is v f h k)))

-- the view that a start finds
found_body : (p : Params) (chip kept bt : List ℕ) (r : ℕ) → ((v : ℕ) → v < p.gamma → bt_at p bt r v ≡ get_or kept v none)
    → (v : ℕ) → v < p.gamma → (found_view p chip bt r).body v ≡ kept_body p chip kept v
unfolding found_view view_of kept_body
found_body p chip kept bt r is v h = rw (lt-ltb v p.gamma h, is v h)

pub found_apart : (p : Params) → Sizes p → (chip kept bt : List ℕ) (r : ℕ) → ((v : ℕ) → v < p.gamma → bt_at p bt r v ≡ get_or kept v none)
    → kept_apart p chip kept ≡ stamps_apart p (found_view p chip bt r)
found_apart p z chip kept bt r is = apart_is p z chip kept (found_view p chip bt r) (found_body p chip kept bt r is)
