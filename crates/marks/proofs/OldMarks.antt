-- The valid frame of a cluster is the one that its CT entry leads to, and no other; so the marks without that one are the marks of the frames
-- that do not hold the cluster.
-- Assumes nothing.
use mathlib.Core.Path.{◌≡◌, refl, sym, ap, ◌∙◌}
use mathlib.Core.Logic.{◌⊎◌, inl, inr}
use Prim.Native.Nat.{ℕ, ◌<◌}
use native.Mathlib.Omega.{arith}
use native.Mathlib.Decide.{ℕ_discrete}
use mathlib.Core.Bool.{Bool, true, false, not, ◌&&◌, and-false, cond}
use lib.Dec.{eqb, ltb}
use borrow.Author.Tests.{eq-eqb, ltb-true, ne_eqb}
use Rattle.lists.proofs.Tests.{and_left, and_right}
use Rattle.rules.specs.declared.Params.{Params}
use Rattle.rules.specs.Numbers.{place_of, vblock_of}
use Rattle.rules.specs.Pages.{frame, held, last_in}
use Rattle.rules.specs.Parameters.{frames}
use Rattle.rules.specs.Regions.{View, valid}
use Rattle.rules.specs.Tables.{none}
use Rattle.rules.proofs.Frames.{seg_low}
use Rattle.rules.proofs.RegionFacts.{Entry, Fronts}
use Rattle.rules.proofs.Sizes.{Sizes}
use Rattle.rules.proofs.Victims.{Valid, valid_in, valid_one}
use Rattle.rules.proofs.ValidFrames.{named_valid}
use Rattle.marks.specs.Kept.{put_mark, without_old}
use Rattle.rules.specs.Marks.{Marks, marked}

-- a test that does not pass where the numbers are equal
apart : (t : Bool) (h c : ℕ) → (t ≡ true → h ≡ c → ⊥) → t ≡ t && not (eqb h c)
apart false h c ne = refl
apart true h c ne = rw (ne_eqb h c (ne refl))

module _ (p : Params) (z : Sizes p) (vw : View) (r c : ℕ) (m : Marks) where
  marked_in : (v f : ℕ) → marked p vw v f ≡ true → (f < frames p) × Valid p vw v f
  unfolding marked
  marked_in v f e = (ltb-true f (frames p) (and_left (ltb f (frames p)) _ e), valid_in p vw v f (and_right (ltb f (frames p)) e))

  pub old_cleared : Fronts p r vw → (vw.seg_of c ≡ none) ⊎ Entry p vw c → (v f : ℕ) → v < p.gamma → m r v f ≡ marked p vw v f
      → without_old p vw r c m r v f ≡ marked p vw v f && not (eqb (held p (frame p (vw.body v) f)) c)
  unfolding without_old put_mark
  old_cleared fs (inl e) v f low is =
      rw e (is ∙ apart (marked p vw v f) (held p (frame p (vw.body v) f)) c (λ t h.
      let w = marked_in v f t in omega (arith, seg_low p z v f w.0 low, z.few, sym w.1.names ∙ ap vw.seg_of h ∙ e)))
  old_cleared fs (inr e) v f low is = rw (ne_eqb (vw.seg_of c) none (λ x. omega (arith, e.low, z.few)), eq-eqb r r refl) (go (ℕ_discrete v at) (ℕ_discrete f last))
    where
      at : ℕ
      at = vblock_of p (vw.seg_of c)

      last : ℕ
      last = last_in p (vw.body at) (place_of p (vw.seg_of c)) c

      named : (valid p vw at last ≡ true) × (held p (frame p (vw.body at) last) ≡ c)
      named = named_valid p z r vw fs c e

      else : (v ≡ at → f ≡ last → ⊥) → m r v f ≡ marked p vw v f && not (eqb (held p (frame p (vw.body v) f)) c)
      else ne =
          is ∙ apart (marked p vw v f) (held p (frame p (vw.body v) f)) c (λ t h.
          let w = marked_in v f t in
          let one = valid_one p z vw v f at last w.0 e.held w.1 (valid_in p vw at last named.0) (h ∙ sym named.1) in ne one.0 one.1)

      go : Dec (v ≡ at) → Dec (f ≡ last) → cond (eqb v at && eqb f last) false (m r v f) ≡ marked p vw v f && not (eqb (held p (frame p (vw.body v) f)) c)
      go (yes a) (yes b) =
          let h : held p (frame p (vw.body v) f) ≡ c = rw (a, b) named.1 in
          rw (eq-eqb v at a, eq-eqb f last b, eq-eqb (held p (frame p (vw.body v) f)) c h) (sym (and-false (marked p vw v f)))
      go (yes a) (no b) = rw (eq-eqb v at a, ne_eqb f last b) (else (λ i. b))
      go (no a) b = rw (ne_eqb v at a) (else (λ i. absurd (a i)))

  -- the marks of another region stay
  pub old_elsewhere : (r' v f : ℕ) → (r' ≡ r → ⊥) → without_old p vw r c m r' v f ≡ m r' v f
  unfolding without_old
  old_elsewhere r' v f ne = go (eqb (vw.seg_of c) none)
    where
      go : (t : Bool) → (cond t m (put_mark m r (vblock_of p (vw.seg_of c)) (last_in p (vw.body (vblock_of p (vw.seg_of c))) (place_of p (vw.seg_of c)) c) false)) r' v f ≡ m r' v f
      go true = refl
      go false = unfold put_mark in rw (ne_eqb r' r ne)
