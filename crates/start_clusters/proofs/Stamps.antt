-- The largest stamp so far: at the start, and what one frame adds.
-- Assumes nothing.
use mathlib.Core.Path.{◌≡◌, refl, sym, ◌∙◌}
use mathlib.Core.Bool.{Bool, true, false, not, ◌&&◌, ◌||◌, cond}
use mathlib.Core.List.{List}
use Prim.Native.Nat.{ℕ, ◌+◌, ◌/◌, ◌≤◌, ◌<◌}
use native.Mathlib.Numerals.{add-one}
use native.Mathlib.Decide.{ℕ_discrete}
use native.Mathlib.Omega.{arith}
use lib.Dec.{eqb, ltb}
use borrow.Author.Tests.{eqb-true, eq-eqb, le-ltb, lt-ltb, ne_eqb, not-false, not-true}
use Rattle.lists.specs.Below.{most_below}
use Rattle.rules.specs.declared.Params.{Params}
use Rattle.rules.specs.Parameters.{frames}
use Rattle.rules.specs.Tables.{bt_at, none, not_found}
use Rattle.rules.specs.Pages.{programmed, stamp_of}
use Rattle.rules.specs.Regions.{View, frame_in, largest_stamp, region_frames, stamp_in}
use Rattle.rules.specs.Start.{found_view}
use Rattle.rules.proofs.Frames.{erased_not}
use Rattle.start_found.specs.Found.{Found}
use Rattle.start_found.proofs.Views.{frame_none, region_few}
use Rattle.start_clusters.specs.Newest.{stamp_to}

module _ (p : Params) (vw : View) where
  abbrev key : ℕ → ℕ
  key = stamp_in p vw

  -- the stamp of the frame that a search gives
  abbrev value : ℕ → ℕ
  value m = cond (eqb m not_found) 0 (key m)

  abbrev search_to : ℕ → ℕ
  search_to n = most_below key not_found n (λ i. programmed p (frame_in p vw i))

  pub stamp_start : 0 ≡ stamp_to p vw 0
  unfolding stamp_to most_below
  stamp_start = refl

  pub stamp_end : (n : ℕ) → n ≡ region_frames p → stamp_to p vw n ≡ largest_stamp p vw
  unfolding stamp_to largest_stamp
  stamp_end n e = rw e

  one_more : (i : ℕ) (t : Bool) → programmed p (frame_in p vw i) ≡ t
      → stamp_to p vw (i + 1) ≡ value (cond (t && (eqb (search_to i) not_found || ltb (key (search_to i)) (key i))) i (search_to i))
  unfolding stamp_to most_below
  one_more i t e = rw (add-one, e)

  pub stamp_skip : (i : ℕ) → programmed p (frame_in p vw i) ≡ false → stamp_to p vw i ≡ stamp_to p vw (i + 1)
  stamp_skip i e = sym (one_more i false e ∙ unfold stamp_to in refl)

  module _ (i : ℕ) (small : i < not_found) (on : programmed p (frame_in p vw i) ≡ true) (last : ℕ) (so : last ≡ stamp_to p vw i) where
    here : value i ≡ key i
    here = rw (ne_eqb i not_found (λ e. omega arith))

    so_far : last ≡ value (search_to i)
    unfolding stamp_to
    so_far = so

    -- it is larger
    pub stamp_more : last < key i → key i ≡ stamp_to p vw (i + 1)
    stamp_more h = sym (one_more i true on ∙ go (search_to i) so_far (ℕ_discrete (search_to i) not_found))
      where
        go : (m : ℕ) → last ≡ value m → Dec (m ≡ not_found) → value (cond (eqb m not_found || ltb (key m) (key i)) i m) ≡ key i
        go m q (yes e) = rw (eq-eqb m not_found e) here
        go m q (no e) =
            let was : last ≡ key m = q ∙ rw (ne_eqb m not_found e) in
            rw (ne_eqb m not_found e, lt-ltb (key m) (key i) (omega (arith, was))) here

    -- it is not
    pub stamp_less : key i ≤ last → last ≡ stamp_to p vw (i + 1)
    stamp_less h = sym (one_more i true on ∙ go (search_to i) so_far (ℕ_discrete (search_to i) not_found))
      where
        go : (m : ℕ) → last ≡ value m → Dec (m ≡ not_found) → value (cond (eqb m not_found || ltb (key m) (key i)) i m) ≡ last
        go m q (yes e) =
            let was : last ≡ 0 = q ∙ rw (eq-eqb m not_found e) in
            rw (eq-eqb m not_found e) (here ∙ omega (arith, was))
        go m q (no e) =
            let was : last ≡ key m = q ∙ rw (ne_eqb m not_found e) in
            rw (ne_eqb m not_found e, le-ltb (key m) (key i) (omega (arith, was)), ne_eqb m not_found e) (sym was)

-- ---- as the code goes

module _ (p : Params) (chip bt : List ℕ) (a : Found p chip bt) (r i : ℕ) (low : i < region_frames p) (last : ℕ) (so : last ≡ stamp_to p (found_view p chip bt r) i) where
  abbrev vw : View
  vw = found_view p chip bt r

  -- its virtual block has no block
  pub stamp_bare : (ok : Bool) → ok ≡ not (eqb (bt_at p bt r (i / frames p)) none) → not ok ≡ true → last ≡ stamp_to p vw (i + 1)
  stamp_bare ok is t =
      so ∙ stamp_skip p vw i (erased_not p (frame_in p vw i) (frame_none p a.fine i low chip bt r (eqb-true _ _ (not-false _ (sym is ∙ not-true ok t)))))

  module _ (fr : List ℕ) (is : fr ≡ frame_in p vw i) where
    -- it is not programmed
    pub stamp_begun : programmed p fr ≡ false → last ≡ stamp_to p vw (i + 1)
    stamp_begun e = so ∙ stamp_skip p vw i (rw is at e)

    module _ (e : programmed p fr ≡ true) (t : ℕ) (stamped : t ≡ stamp_of p fr) where
      stamp_is : t ≡ stamp_in p vw i
      unfolding stamp_in
      stamp_is = stamped ∙ rw is

      small : i < not_found
      small = omega (arith, low, region_few p a.fine)

      pub stamp_higher : last < t → t ≡ stamp_to p vw (i + 1)
      stamp_higher h = stamp_is ∙ stamp_more p vw i small (rw is at e) last so (rw stamp_is at h)

      pub stamp_lower : t ≤ last → last ≡ stamp_to p vw (i + 1)
      stamp_lower h = stamp_less p vw i small (rw is at e) last so (rw stamp_is at h)
