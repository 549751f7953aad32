-- What the stamps of a region's whole frames say is kept: a region without a block has it, a release keeps it, and so does a host's frame with a stamp above all.
-- Assumes nothing.
use mathlib.Core.Path.{◌≡◌, refl, sym, ap, ◌∙◌}
use mathlib.Core.Logic.{◌⊎◌, inl, inr}
use Prim.Native.Nat.{ℕ, ◌/◌, ◌≤◌, ◌<◌}
use native.Mathlib.Omega.{arith}
use native.Mathlib.Decide.{ℕ_discrete}
use mathlib.Core.Bool.{true, false}
use mathlib.Core.List.{List, [], ◌∷◌}
use lib.Dec.{ltb}
use lib.ListN.{length}
use borrow.Author.Tests.{eqb-true, lt-ltb}
use Rattle.lists.specs.Below.{updated}
use Rattle.lists.specs.Parts.{all_are}
use Rattle.lists.proofs.Joins.{all_are_part, updated_other, updated_same}
use Rattle.lists.proofs.Tests.{never, so}
use Rattle.rules.specs.declared.Params.{Params}
use Rattle.rules.specs.Parameters.{frame_bytes}
use Rattle.rules.specs.Numbers.{place_of, vblock_of}
use Rattle.rules.specs.Tables.{none}
use Rattle.rules.specs.Pages.{filled, frame, holds, stamp_of}
use Rattle.rules.specs.Regions.{View, assigned, frame_of}
use Rattle.rules.specs.Machine.{with_frame, without}
use Rattle.rules.proofs.FramePut.{Ready, Sheet, body_old, frame_new, frame_old, last_new, same_frame, seg_new, seg_old, sheet_holds, sheet_stamp}
use Rattle.rules.proofs.Frames.{erased_holds, seg_place, seg_vblock}
use Rattle.rules.proofs.RegionFacts.{Entry, Fronts, GoodFrame, UpTo, good_held, holds_front}
use Rattle.rules.proofs.Sizes.{Sizes}
use Rattle.rules.proofs.Stamps.{Bounded}
use Rattle.starts.specs.Timely.{Timely, WholeAt, frame_stamp}

-- ---- no frame

pub none_timely : (p : Params) (vw : View) → ((c v f : ℕ) → WholeAt p vw c v f → ⊥) → Timely p vw
none_timely p vw h =
    record {
      apart = λ c v f u g a b e. absurd (h c v f a);
      rises = λ c v f g a b e l. absurd (h c v f a);
      newest = λ c u g some a. absurd (h c u g a);
    }

-- ---- a release

pub without_timely : (p : Params) (vw : View) (c : ℕ) → Timely p vw → Timely p (without vw c)
unfolding without frame_of
without_timely p vw c t =
    record {
      apart = λ d v f u g a b. t.apart d v f u g (same d v f a) (same d u g b);
      rises = λ d v f g a b. t.rises d v f g (same d v f a) (same d v g b);
      newest = λ d u g ne a. go d u g (ℕ_discrete d c) ne a;
    }
  where
    same : (d v f : ℕ) → WholeAt p (without vw c) d v f → WholeAt p vw d v f
    same d v f a = record { block = a.block; low = a.low; whole = a.whole }

    go : (d u g : ℕ) → Dec (d ≡ c) → ((without vw c).seg_of d ≡ none → ⊥) → WholeAt p (without vw c) d u g → frame_stamp p (without vw c) u g ≤ stamp_of p (frame_of p (without vw c) d)
    go d u g (yes e) ne a = absurd (ne (ap (updated vw.seg_of c none) e ∙ updated_same vw.seg_of c none))
    go d u g (no e) ne a =
        let k : (without vw c).seg_of d ≡ vw.seg_of d = updated_other vw.seg_of c none d e in
        rw k (t.newest d u g (λ x. ne (k ∙ x)) (same d u g a))

-- ---- whole frames of a region in order

-- a block with a frame of a cluster is there
pub whole_has : (p : Params) (vw : View) (c v f : ℕ) → WholeAt p vw c v f → assigned vw v ≡ true
whole_has p vw c v f a = go (so (assigned vw v))
  where
    empty : (l : List ℕ) → ltb 0 (length l) ≡ false → l ≡ []
    empty [] h = refl
    empty (x ∷ xs) h = absurd (never (lt-ltb 0 (length (x ∷ xs)) (omega arith)) h)

    go : (assigned vw v ≡ true) ⊎ (assigned vw v ≡ false) → assigned vw v ≡ true
    go (inl h) = h
    go (inr h) =
        let e : vw.body v ≡ [] = empty (vw.body v) (unfold assigned in h) in
        let w : holds p (frame p [] f) c ≡ true = rw e at a.whole in
        let blank : all_are 255 (frame p [] f) ≡ true = unfold frame in all_are_part 255 (frame_bytes p) f [] (unfold all_are in refl) in
        absurd (never w (erased_holds p (frame p [] f) c blank))

-- such a frame is right, so its cluster is one of the board, and it is programmed
module _ (p : Params) (z : Sizes p) (r : ℕ) (vw : View) (fronts : Fronts p r vw) where
  pub whole_good : (c u g : ℕ) → WholeAt p vw c u g → GoodFrame p r u (frame p (vw.body u) g)
  whole_good c u g a =
      let w : UpTo p r u (filled p (vw.body u)) (vw.body u) = fronts u a.block (whole_has p vw c u g a) in
      w.front g (holds_front p r u (filled p (vw.body u)) (vw.body u) w g c a.low a.whole) a.low

  pub whole_low : (c u g : ℕ) → WholeAt p vw c u g → c < p.C
  whole_low c u g a = rw (← good_held p z r u (frame p (vw.body u) g) (whole_good c u g a) c a.whole) (whole_good c u g a).low

  -- its stamp is at most the bound of the programmed frames
  pub whole_bound : (t : ℕ) → Bounded p vw t → (c u g : ℕ) → WholeAt p vw c u g → frame_stamp p vw u g ≤ t
  whole_bound t h c u g a = h u g a.block a.low (whole_good c u g a).on

-- ---- a host's frame

module _ (p : Params) (z : Sizes p) (vw : View) (v f c : ℕ) (x : List ℕ) (ready : Ready p vw v f) (sheet : Sheet p v c x) where
  -- a frame of the view that is left is the new one, or stood there
  data Which (u g : ℕ) : Type 0 where
    new : u ≡ v → g ≡ f → frame p ((with_frame p vw v f c x).body u) g ≡ x → Which u g
    old : frame p ((with_frame p vw v f c x).body u) g ≡ frame p (vw.body u) g → Which u g

  which : (u g : ℕ) → Which u g
  which u g = go (ℕ_discrete u v) (ℕ_discrete g f)
    where
      go : Dec (u ≡ v) → Dec (g ≡ f) → Which u g
      go (yes a) (yes b) = new a b (rw (a, b) (frame_new p z vw v f c x ready sheet))
      go (yes a) (no b) = old (rw a (frame_old p z vw v f c x ready sheet g b))
      go (no a) d = old (ap (λ (y : List ℕ). frame p y g) (body_old p z vw v f c x ready sheet u a))

  stood : (d u g : ℕ) → frame p ((with_frame p vw v f c x).body u) g ≡ frame p (vw.body u) g → WholeAt p (with_frame p vw v f c x) d u g → WholeAt p vw d u g
  stood d u g e a = record { block = a.block; low = a.low; whole = rw e at a.whole }

  -- a whole frame of another cluster stood there
  pub put_old : (d u g : ℕ) → (d ≡ c → ⊥) → WholeAt p (with_frame p vw v f c x) d u g
      → (frame p ((with_frame p vw v f c x).body u) g ≡ frame p (vw.body u) g) × WholeAt p vw d u g
  put_old d u g ne a = go (which u g)
    where
      go : Which u g → (frame p ((with_frame p vw v f c x).body u) g ≡ frame p (vw.body u) g) × WholeAt p vw d u g
      go (new h k i) =
          let y : holds p x d ≡ true = rw i at a.whole in
          absurd (ne (sym (eqb-true c d (sym (sheet_holds p z v c x sheet d) ∙ y))))
      go (old i) = (i, stood d u g i a)

  -- no stamp of the view's whole frames is above `top`, and the sheet's is
  module _ (top : ℕ) (bound : (d u g : ℕ) → WholeAt p vw d u g → frame_stamp p vw u g ≤ top) (above : top < sheet.stamp) where
    -- the new one's stamp is above
    new_stamp : (u g : ℕ) → frame p ((with_frame p vw v f c x).body u) g ≡ x → frame_stamp p (with_frame p vw v f c x) u g ≡ sheet.stamp
    new_stamp u g e = ap (stamp_of p) e ∙ sheet_stamp p z v c x sheet

    old_stamp : (d u g : ℕ) → frame p ((with_frame p vw v f c x).body u) g ≡ frame p (vw.body u) g → WholeAt p (with_frame p vw v f c x) d u g → frame_stamp p (with_frame p vw v f c x) u g ≤ top
    old_stamp d u g e a = rw (ap (stamp_of p) e) (bound d u g (stood d u g e a))

    new_apart : (d v₁ f₁ v₂ f₂ : ℕ) → WholeAt p (with_frame p vw v f c x) d v₁ f₁ → WholeAt p (with_frame p vw v f c x) d v₂ f₂ → Timely p vw
        → frame_stamp p (with_frame p vw v f c x) v₁ f₁ ≡ frame_stamp p (with_frame p vw v f c x) v₂ f₂ → (v₁ ≡ v₂) × (f₁ ≡ f₂)
    new_apart d v₁ f₁ v₂ f₂ a b t e = go (which v₁ f₁) (which v₂ f₂)
      where
        go : Which v₁ f₁ → Which v₂ f₂ → (v₁ ≡ v₂) × (f₁ ≡ f₂)
        go (new h k i) (new h' k' i') = (h ∙ sym h', k ∙ sym k')
        go (new h k i) (old i') = absurd (omega (arith, new_stamp v₁ f₁ i, old_stamp d v₂ f₂ i' b, e, above))
        go (old i) (new h' k' i') = absurd (omega (arith, new_stamp v₂ f₂ i', old_stamp d v₁ f₁ i a, e, above))
        go (old i) (old i') = t.apart d v₁ f₁ v₂ f₂ (stood d v₁ f₁ i a) (stood d v₂ f₂ i' b) (sym (ap (stamp_of p) i) ∙ e ∙ ap (stamp_of p) i')

    -- no frame of the view stands behind the new one
    none_behind : (d g : ℕ) → f < g → WholeAt p vw d v g → ⊥
    none_behind d g l a = never a.whole (erased_holds p (frame p (vw.body v) g) d (ready.rest g (omega arith) a.low))

    new_rises : (d u g h : ℕ) → WholeAt p (with_frame p vw v f c x) d u g → WholeAt p (with_frame p vw v f c x) d u h → Timely p vw → g / p.beta ≡ h / p.beta → g < h
        → frame_stamp p (with_frame p vw v f c x) u g < frame_stamp p (with_frame p vw v f c x) u h
    new_rises d u g h a b t s l = go (which u g) (which u h)
      where
        go : Which u g → Which u h → frame_stamp p (with_frame p vw v f c x) u g < frame_stamp p (with_frame p vw v f c x) u h
        go (new j k i) (new j' k' i') = absurd (omega (arith, k, k', l))
        go (new j k i) (old i') = absurd (none_behind d h (rw (← k) l) (rw j at (stood d u h i' b)))
        go (old i) (new j' k' i') = omega (arith, new_stamp u h i', old_stamp d u g i a, above)
        go (old i) (old i') = let w = t.rises d u g h (stood d u g i a) (stood d u h i' b) s l in rw (ap (stamp_of p) i, ap (stamp_of p) i') w

    own_frame : frame_of p (with_frame p vw v f c x) c ≡ x
    unfolding frame_of
    own_frame =
        rw (seg_new p z vw v f c x ready sheet, seg_vblock p z v f ready.low, seg_place p z v f ready.low, last_new p z vw v f c x ready sheet, frame_new p z vw v f c x ready sheet)

    other_frame : (d : ℕ) → (d ≡ c → ⊥) → (vw.seg_of d ≡ none) ⊎ Entry p vw d → (vw.seg_of d ≡ none → ⊥) → frame_of p (with_frame p vw v f c x) d ≡ frame_of p vw d
    unfolding frame_of
    other_frame d ne (inl e) some = absurd (some e)
    other_frame d ne (inr e) some = rw (seg_old p z vw v f c x ready sheet d ne) (same_frame p z vw v f c x ready sheet d ne (vblock_of p (vw.seg_of d)) (place_of p (vw.seg_of d)) e.held)

    -- a host write's frame keeps it
    pub put_timely : Timely p vw → ((d u g : ℕ) → WholeAt p vw d u g → (vw.seg_of d ≡ none) ⊎ Entry p vw d) → Timely p (with_frame p vw v f c x)
    put_timely t entries =
        record {
          apart = λ d v₁ f₁ v₂ f₂ a b e. new_apart d v₁ f₁ v₂ f₂ a b t e;
          rises = λ d u g h a b s l. new_rises d u g h a b t s l;
          newest = λ d u g some a. newest d u g some a (ℕ_discrete d c) (which u g);
        }
      where
        newest : (d u g : ℕ) → ((with_frame p vw v f c x).seg_of d ≡ none → ⊥) → WholeAt p (with_frame p vw v f c x) d u g → Dec (d ≡ c) → Which u g
            → frame_stamp p (with_frame p vw v f c x) u g ≤ stamp_of p (frame_of p (with_frame p vw v f c x) d)
        newest d u g some a (yes e) w = rw (e, own_frame, sheet_stamp p z v c x sheet) (top_of w)
          where
            top_of : Which u g → frame_stamp p (with_frame p vw v f c x) u g ≤ sheet.stamp
            top_of (new h k i) = omega (arith, new_stamp u g i)
            top_of (old i) = omega (arith, old_stamp d u g i a, above)
        newest d u g some a (no e) w =
            let o = put_old d u g e a in
            let s : vw.seg_of d ≡ none → ⊥ = λ n. some (seg_old p z vw v f c x ready sheet d e ∙ n) in
            rw (other_frame d e (entries d u g o.1) s, ap (stamp_of p) o.0) (t.newest d u g s o.1)
