-- Where CT has none for a cluster none of its frames is copied, whichever virtual block is reclaimed.
-- Assumes nothing.
use mathlib.Core.Path.{◌≡◌, refl, sym, ap, ◌∙◌}
use mathlib.Core.Logic.{◌⊎◌, inl, inr}
use Prim.Native.Nat.{ℕ, suc, zero, ◌<◌}
use native.Mathlib.Omega.{arith}
use mathlib.Core.Bool.{Bool, true, false, not, cond}
use mathlib.Core.List.{List, [], ◌∷◌, ◌++◌, map, map-append}
use lib.Dec.{eqb}
use borrow.Author.Tests.{ne_eqb}
use Rattle.lists.specs.Below.{keep_below}
use Rattle.lists.proofs.Tests.{and_intro, and_left, and_right, so}
use Rattle.rules.specs.declared.Params.{Params}
use Rattle.rules.specs.Numbers.{region_of}
use Rattle.rules.specs.Pages.{frame, held}
use Rattle.rules.specs.Parameters.{frames}
use Rattle.rules.specs.Regions.{valid, valid_frames, view, view_of}
use Rattle.rules.specs.Tables.{none}
use Rattle.rules.specs.Write.{copies}
use Rattle.rules.proofs.Frames.{seg_low}
use Rattle.rules.proofs.Sizes.{Sizes, sizes}
use Rattle.rules.proofs.Victims.{Valid, valid_in}
use Rattle.claims.specs.Conditions.{none_holds}
use Rattle.claims.specs.Frames.{NoneCopied}

-- of a frame more at the end
none_more : (p : Params) (c : ℕ) (xs ys : List (List ℕ)) → none_holds p c xs ≡ true → none_holds p c ys ≡ true → none_holds p c (xs ++ ys) ≡ true
unfolding none_holds
none_more p c [] ys h k = k
none_more p c (x ∷ xs) ys h k = and_intro (and_left (not (eqb (held p x) c)) _ h) (none_more p c xs ys (and_right (not (eqb (held p x) c)) h) k)

-- of the numbers below n that pass, each with a frame that does not hold the cluster
none_kept : (p : Params) (c : ℕ) (f : ℕ → Bool) (g : ℕ → List ℕ) (n : ℕ) → ((i : ℕ) → i < n → f i ≡ true → not (eqb (held p (g i)) c) ≡ true)
    → none_holds p c (map g (keep_below n f)) ≡ true
unfolding none_holds keep_below
none_kept p c f g zero h = refl
none_kept p c f g (suc n) h = rw (map-append g (keep_below n f) (cond (f n) (n ∷ []) []))
    (none_more p c (map g (keep_below n f)) (map g (cond (f n) (n ∷ []) [])) (none_kept p c f g n (λ i k. h i (omega arith))) (last (so (f n))))
  where
    last : (f n ≡ true) ⊎ (f n ≡ false) → none_holds p c (map g (cond (f n) (n ∷ []) [])) ≡ true
    last (inl e) = rw e (and_intro (h n (omega arith) e) refl)
    last (inr e) = rw e

-- a valid frame of the cluster would have CT name its segment
pub none_copied : NoneCopied
unfolding copies valid_frames view_of
none_copied p b fine c e r v hv =
    none_kept p c (valid p (view p b r) v) (frame p ((view p b r).body v)) (frames p) (λ f k t. ap not (ne_eqb _ _ (λ is. other f k (valid_in p (view p b r) v f t) is)))
  where
    z : Sizes p
    z = sizes p fine

    either : (t : Bool) → cond t none none ≡ none
    either true = refl
    either false = refl

    no_segment : (view p b r).seg_of c ≡ none
    no_segment = rw e (either (eqb (region_of p c) r))

    other : (f : ℕ) → f < frames p → Valid p (view p b r) v f → held p (frame p ((view p b r).body v) f) ≡ c → ⊥
    other f k w is = omega (arith, seg_low p z v f k hv, z.few, sym w.names ∙ ap (view p b r).seg_of is ∙ no_segment)
