-- The rule of the stamps as a bound on the programmed frames of a region; the frame that a write puts has the next stamp, and the frames beside it are old ones.
-- Assumes nothing.
use mathlib.Core.Path.{◌≡◌, refl, sym, ap, ◌∙◌}
use mathlib.Core.Logic.{◌⊎◌, inl, inr}
use Prim.Native.Nat.{ℕ, ◌+◌, ◌≤◌, ◌<◌}
use native.Mathlib.Omega.{arith}
use native.Mathlib.Decide.{ℕ_discrete, dec_lt}
use mathlib.Core.Bool.{true, false, not, ◌||◌}
use mathlib.Core.List.{List, [], ◌∷◌}
use lib.Dec.{leb, ltb}
use lib.ListN.{length}
use borrow.Author.Tests.{le-leb, leb-true, lt-ltb}
use Rattle.lists.specs.Parts.{all_are}
use Rattle.lists.proofs.Joins.{all_are_part}
use Rattle.lists.proofs.Tests.{all_at, all_below_intro, never, or_right, so, truths}
use Rattle.rules.specs.declared.Params.{Params}
use Rattle.rules.specs.Parameters.{frame_bytes, frames}
use Rattle.rules.specs.Tables.{Board, stamp_at}
use Rattle.rules.specs.Pages.{filled, frame, programmed, stamp_of}
use Rattle.rules.specs.Regions.{View, assigned, view}
use Rattle.rules.specs.Orderly.{orderly, region_stamps, rules_of, stamp_rule, stamps_to}
use Rattle.rules.specs.Machine.{with_frame}
use Rattle.rules.proofs.FramePut.{Ready, Sheet, body_old, frame_new, frame_old, sheet_stamp}
use Rattle.rules.proofs.Frames.{erased_not}
use Rattle.rules.proofs.RegionFacts.{Neat, UpTo, good_stamp}
use Rattle.rules.proofs.Sizes.{Sizes}

-- ---- the rule

-- no bytes are no programmed frame
pub bare_frame : (p : Params) (f : ℕ) → programmed p (frame p [] f) ≡ false
bare_frame p f = erased_not p (frame p [] f) (unfold frame in all_are_part 255 (frame_bytes p) f [] (unfold all_are in refl))

-- a block that has a programmed frame is there
pub programmed_has : (p : Params) (vw : View) (v f : ℕ) → programmed p (frame p (vw.body v) f) ≡ true → assigned vw v ≡ true
programmed_has p vw v f e = go (so (assigned vw v))
  where
    empty : (l : List ℕ) → ltb 0 (length l) ≡ false → l ≡ []
    empty [] h = refl
    empty (x ∷ xs) h = absurd (never (lt-ltb 0 (length (x ∷ xs)) (omega arith)) h)

    go : (assigned vw v ≡ true) ⊎ (assigned vw v ≡ false) → assigned vw v ≡ true
    go (inl a) = a
    go (inr a) =
        let n : vw.body v ≡ [] = empty (vw.body v) (unfold assigned in a) in
        let y : programmed p (frame p [] f) ≡ true = rw n at e in
        absurd (never y (bare_frame p f))

-- no programmed frame has a stamp above t
abbrev pub Bounded : Params → View → ℕ → Type 0
Bounded p vw t = (v f : ℕ) → v < p.gamma → f < frames p → programmed p (frame p (vw.body v) f) ≡ true → stamp_of p (frame p (vw.body v) f) ≤ t

module _ (p : Params) (vw : View) (t : ℕ) where
  bounded_in : region_stamps p t vw ≡ true → Bounded p vw t
  unfolding region_stamps stamps_to
  bounded_in h v f hv hf w = leb-true _ _ (rw w at (all_at (frames p) _ (all_at p.gamma _ h v hv) f hf))

  pub bounded_out : Bounded p vw t → region_stamps p t vw ≡ true
  unfolding region_stamps stamps_to
  bounded_out h = all_below_intro p.gamma _ (λ v hv. all_below_intro (frames p) _ (λ f hf. go v f hv hf (so (programmed p (frame p (vw.body v) f)))))
    where
      go : (v f : ℕ) → v < p.gamma → f < frames p → (programmed p (frame p (vw.body v) f) ≡ true) ⊎ (programmed p (frame p (vw.body v) f) ≡ false)
          → not (programmed p (frame p (vw.body v) f)) || leb (stamp_of p (frame p (vw.body v) f)) t ≡ true
      go v f hv hf (inl w) = or_right (not (programmed p (frame p (vw.body v) f))) (le-leb _ _ (h v f hv hf w))
      go v f hv hf (inr w) = rw w

-- a stamp of 32 bits is never above the largest one
pub neat_bounded : (p : Params) (z : Sizes p) (r : ℕ) (vw : View) → Neat p r vw → Bounded p vw 4294967295
neat_bounded p z r vw nt v f hv hf w = go (dec_lt f (filled p (vw.body v)))
  where
    u : UpTo p r v (filled p (vw.body v)) (vw.body v)
    u = (nt.blocks v hv (programmed_has p vw v f w)).1

    go : Dec (f < filled p (vw.body v)) → stamp_of p (frame p (vw.body v) f) ≤ 4294967295
    go (yes h) = omega (arith, good_stamp p z r v (frame p (vw.body v) f) (u.front f h hf))
    go (no h) = absurd (never w (erased_not p (frame p (vw.body v) f) (u.rest f (omega arith) hf)))

-- so of the board
pub stamps_in : (p : Params) (b : Board) → orderly p b ≡ true → (r : ℕ) → r < p.mu → Bounded p (view p b r) (stamp_at b.stamps r)
unfolding orderly rules_of stamp_rule
stamps_in p b h r hr = bounded_in p (view p b r) _ (all_at p.mu _ (truths _ h).1.1.1.1.1.1.1.1.1.0 r hr)

pub stamps_out : (p : Params) (b : Board) → ((r : ℕ) → r < p.mu → Bounded p (view p b r) (stamp_at b.stamps r)) → stamp_rule p b ≡ true
unfolding stamp_rule
stamps_out p b h = all_below_intro p.mu _ (λ r hr. bounded_out p (view p b r) _ (h r hr))

-- ---- what a write keeps

-- each programmed frame of vw₁ was one of vw, byte for byte
abbrev pub Stood : Params → View → View → Type 0
Stood p vw vw₁ =
    (u g : ℕ) → u < p.gamma → g < frames p → programmed p (frame p (vw₁.body u) g) ≡ true
    → (u₀ : ℕ) × (g₀ : ℕ) × (u₀ < p.gamma) × (g₀ < frames p) × (frame p (vw₁.body u) g ≡ frame p (vw.body u₀) g₀)

pub stood_bounded : (p : Params) (vw vw₁ : View) (t : ℕ) → Stood p vw vw₁ → Bounded p vw t → Bounded p vw₁ t
stood_bounded p vw vw₁ t s h u g hu hg w =
    let k = s u g hu hg w in
    rw k.4 (h k.0 k.1 k.2 k.3 (sym (ap (programmed p) k.4) ∙ w))

-- a frame with the next stamp raises the bound by one
module _ (p : Params) (z : Sizes p) (vw : View) (v f c : ℕ) (x : List ℕ) (ready : Ready p vw v f) (sheet : Sheet p v c x) where
  pub put_bounded : (t : ℕ) → sheet.stamp ≡ t + 1 → Bounded p vw t → Bounded p (with_frame p vw v f c x) (t + 1)
  put_bounded t e h u g hu hg w = go (ℕ_discrete u v) (ℕ_discrete g f)
    where
      same : frame p ((with_frame p vw v f c x).body u) g ≡ frame p (vw.body u) g → stamp_of p (frame p ((with_frame p vw v f c x).body u) g) ≤ t + 1
      same k =
          let old = h u g hu hg (sym (ap (programmed p) k) ∙ w) in
          rw k (omega (arith, old))

      go : Dec (u ≡ v) → Dec (g ≡ f) → stamp_of p (frame p ((with_frame p vw v f c x).body u) g) ≤ t + 1
      go (no ne) k = same (ap (λ (l : List ℕ). frame p l g) (body_old p z vw v f c x ready sheet u ne))
      go (yes k) (no ne) = same (rw k (frame_old p z vw v f c x ready sheet g ne))
      go (yes k) (yes l) = rw (k, l, frame_new p z vw v f c x ready sheet) (omega (arith, sheet_stamp p z v c x sheet, e))
