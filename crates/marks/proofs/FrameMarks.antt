-- A frame put into a region's view, of cluster c: it is valid, and of the others those stay valid that do not hold c, for a cluster has one
-- valid frame and every other cluster's CT entry and last frame are what they were.
-- Assumes nothing.
use mathlib.Core.Path.{◌≡◌, refl, sym, ap, ◌∙◌}
use mathlib.Core.Logic.{◌⊎◌, inl, inr}
use Prim.Native.Nat.{ℕ, ◌/◌, ◌≤◌, ◌<◌}
use native.Mathlib.Omega.{arith}
use native.Mathlib.Decide.{ℕ_discrete, dec_lt}
use mathlib.Core.Bool.{true, false, not, ◌&&◌, and-false, and-true, cond}
use mathlib.Core.List.{List}
use lib.Dec.{eqb}
use borrow.Author.Tests.{eq-eqb, le-ltb, lt-ltb, ne_eqb}
use Rattle.lists.proofs.Tests.{so}
use Rattle.rules.specs.declared.Params.{Params}
use Rattle.rules.specs.Pages.{frame, held, last_in}
use Rattle.rules.specs.Parameters.{frames}
use Rattle.rules.specs.Regions.{View, valid}
use Rattle.rules.proofs.FramePut.{Ready, Sheet, body_old, frame_new, frame_old, last_new, last_old, seg_new, seg_old}
use Rattle.rules.proofs.Frames.{right_held, right_programmed}
use Rattle.rules.proofs.Sizes.{Sizes}
use Rattle.rules.proofs.Victims.{Valid, valid_in, valid_one, valid_out}
use Rattle.rules.specs.Machine.{with_frame}
use Rattle.rules.specs.Marks.{marked}

-- a number from F up has no mark
pub unmarked : (p : Params) (vw : View) (v f : ℕ) → frames p ≤ f → marked p vw v f ≡ false
unfolding marked
unmarked p vw v f h = rw (le-ltb f (frames p) h)

-- one below F has it where the frame is valid
pub marked_valid : (p : Params) (vw : View) (v f : ℕ) → f < frames p → marked p vw v f ≡ valid p vw v f
unfolding marked
marked_valid p vw v f h = rw (lt-ltb f (frames p) h)

module _ (p : Params) (z : Sizes p) (vw : View) (v f c : ℕ) (x : List ℕ) (ready : Ready p vw v f) (sheet : Sheet p v c x) where
  held_new : held p (frame p ((with_frame p vw v f c x).body v) f) ≡ c
  held_new = rw (frame_new p z vw v f c x ready sheet) (right_held p x c sheet.stamp v (sheet.spares 0 z.sectors) sheet.small)

  new_valid : Valid p (with_frame p vw v f c x) v f
  new_valid =
      record {
        written = rw (frame_new p z vw v f c x ready sheet) (right_programmed p x c sheet.stamp v (sheet.spares 0 z.sectors));
        names = rw held_new (seg_new p z vw v f c x ready sheet);
        last = rw held_new (last_new p z vw v f c x ready sheet);
      }

  -- of another frame
  module _ (u g : ℕ) (other : u ≡ v → g ≡ f → ⊥) where
    same_frame : frame p ((with_frame p vw v f c x).body u) g ≡ frame p (vw.body u) g
    same_frame = go (ℕ_discrete u v)
      where
        go : Dec (u ≡ v) → frame p ((with_frame p vw v f c x).body u) g ≡ frame p (vw.body u) g
        go (yes e) = rw e (frame_old p z vw v f c x ready sheet g (other e))
        go (no e) = rw (body_old p z vw v f c x ready sheet u e)

    same_last : (k h : ℕ) → (h ≡ c → ⊥) → last_in p ((with_frame p vw v f c x).body u) k h ≡ last_in p (vw.body u) k h
    same_last k h ne = go (ℕ_discrete u v)
      where
        go : Dec (u ≡ v) → last_in p ((with_frame p vw v f c x).body u) k h ≡ last_in p (vw.body u) k h
        go (yes e) = rw e (last_old p z vw v f c x ready sheet h ne k)
        go (no e) = rw (body_old p z vw v f c x ready sheet u e)

    stale : g < frames p → held p (frame p (vw.body u) g) ≡ c → valid p (with_frame p vw v f c x) u g ≡ false
    stale low e = go (so (valid p (with_frame p vw v f c x) u g))
      where
        go : (valid p (with_frame p vw v f c x) u g ≡ true) ⊎ (valid p (with_frame p vw v f c x) u g ≡ false) → valid p (with_frame p vw v f c x) u g ≡ false
        go (inl t) =
            let one = valid_one p z (with_frame p vw v f c x) u g v f low ready.low (valid_in p (with_frame p vw v f c x) u g t) new_valid (ap (held p) same_frame ∙ e ∙ sym held_new) in
            absurd (other one.0 one.1)
        go (inr t) = t

    other_valid : g < frames p → valid p (with_frame p vw v f c x) u g ≡ valid p vw u g && not (eqb (held p (frame p (vw.body u) g)) c)
    other_valid low = go (ℕ_discrete (held p (frame p (vw.body u) g)) c)
      where
        go : Dec (held p (frame p (vw.body u) g) ≡ c) → valid p (with_frame p vw v f c x) u g ≡ valid p vw u g && not (eqb (held p (frame p (vw.body u) g)) c)
        go (yes e) = rw (stale low e, eq-eqb _ c e) (sym (and-false (valid p vw u g)))
        go (no e) =
            rw (ne_eqb _ c e, and-true (valid p vw u g))
            (unfold valid in rw (same_frame, seg_old p z vw v f c x ready sheet (held p (frame p (vw.body u) g)) e, same_last (g / p.beta) (held p (frame p (vw.body u) g)) e))

    other_marked : marked p (with_frame p vw v f c x) u g ≡ marked p vw u g && not (eqb (held p (frame p (vw.body u) g)) c)
    other_marked = go (dec_lt g (frames p))
      where
        go : Dec (g < frames p) → marked p (with_frame p vw v f c x) u g ≡ marked p vw u g && not (eqb (held p (frame p (vw.body u) g)) c)
        go (yes h) = rw (marked_valid p (with_frame p vw v f c x) u g h, marked_valid p vw u g h) (other_valid h)
        go (no h) = rw (unmarked p (with_frame p vw v f c x) u g (omega arith), unmarked p vw u g (omega arith))

  pub frame_marks : (u g : ℕ) → marked p (with_frame p vw v f c x) u g ≡ cond (eqb u v && eqb g f) true (marked p vw u g && not (eqb (held p (frame p (vw.body u) g)) c))
  frame_marks u g = go (ℕ_discrete u v) (ℕ_discrete g f)
    where
      go : Dec (u ≡ v) → Dec (g ≡ f)
          → marked p (with_frame p vw v f c x) u g ≡ cond (eqb u v && eqb g f) true (marked p vw u g && not (eqb (held p (frame p (vw.body u) g)) c))
      go (yes a) (yes b) =
          rw (a, b, eq-eqb v v refl, eq-eqb f f refl, marked_valid p (with_frame p vw v f c x) v f ready.low) (valid_out p (with_frame p vw v f c x) v f new_valid)
      go (yes a) (no b) = rw (eq-eqb u v a, ne_eqb g f b) (other_marked u g (λ i. b))
      go (no a) d = rw (ne_eqb u v a) (other_marked u g (λ i. absurd (a i)))
