-- The frame that CT leads to, by its place: it is valid, holds the cluster, and is the only one that does both.
-- Assumes nothing.
use mathlib.Core.Path.{◌≡◌, sym, ap, ap₂, ◌∙◌}
use Prim.Native.Nat.{ℕ, ◌+◌, ◌*◌, ◌/◌, ◌<◌}
use native.Mathlib.Nat.{div-add-mod', div-lt_iff_lt-mul}
use mathlib.Core.Bool.{true}
use Rattle.rules.specs.declared.Params.{Params}
use Rattle.rules.specs.Parameters.{frames}
use Rattle.rules.specs.Numbers.{place_of, vblock_of}
use Rattle.rules.specs.Pages.{frame, held, holds, last_in}
use Rattle.rules.specs.Regions.{View, valid}
use Rattle.rules.proofs.FramePut.{last_holds}
use Rattle.rules.proofs.RegionFacts.{Entry, Fronts, GoodFrame, good_held, holds_front}
use Rattle.rules.proofs.Sizes.{Sizes}
use Rattle.rules.proofs.Victims.{Valid, valid_in, valid_one, valid_out}

module _ (p : Params) (z : Sizes p) (r : ℕ) (vw : View) (fronts : Fronts p r vw) (c : ℕ) (e : Entry p vw c) where
  abbrev pub block_of : ℕ
  block_of = vblock_of p (vw.seg_of c)

  abbrev pub frame_of_lem : ℕ
  frame_of_lem = last_in p (vw.body block_of) (place_of p (vw.seg_of c)) c

  pub found : (frame_of_lem / p.beta ≡ place_of p (vw.seg_of c)) × (holds p (frame p (vw.body block_of) frame_of_lem) c ≡ true)
  found = last_holds p z (vw.body (vblock_of p (vw.seg_of c))) (place_of p (vw.seg_of c)) c e.held

  -- it is one of the programmed frames of its block
  good : GoodFrame p r block_of (frame p (vw.body block_of) frame_of_lem)
  good =
      let u = fronts block_of ((div-lt_iff_lt-mul z.segments).1 e.low) e.has in
      u.front frame_of_lem (holds_front p r block_of _ (vw.body block_of) u frame_of_lem c e.held found.1) e.held

  pub held_is : held p (frame p (vw.body block_of) frame_of_lem) ≡ c
  held_is = good_held p z r block_of (frame p (vw.body block_of) frame_of_lem) good c found.1

  pub is_valid_lem : Valid p vw block_of frame_of_lem
  is_valid_lem =
      record {
        written = good.on;
        names = ap vw.seg_of held_is ∙ sym (ap (λ (k : ℕ). vw.seg_of c / p.d * p.d + k) found.0 ∙ div-add-mod' (vw.seg_of c) p.d);
        last = ap₂ (λ (k x : ℕ). last_in p (vw.body block_of) k x) found.0 held_is;
      }

  pub only_valid : (u g : ℕ) → g < frames p → valid p vw u g ≡ true → held p (frame p (vw.body u) g) ≡ c → (u ≡ block_of) × (g ≡ frame_of_lem)
  only_valid u g h w i = valid_one p z vw u g block_of frame_of_lem h e.held (valid_in p vw u g w) is_valid_lem (i ∙ sym held_is)

-- a valid frame is a whole one
pub valid_holds : (p : Params) → Sizes p → (vw : View) (v f : ℕ) → f < frames p → Valid p vw v f → holds p (frame p (vw.body v) f) (held p (frame p (vw.body v) f)) ≡ true
valid_holds p z vw v f h ok =
    let k : last_in p (vw.body v) (f / p.beta) (held p (frame p (vw.body v) f)) < frames p = rw ok.last h in
    rw ok.last at (last_holds p z (vw.body v) (f / p.beta) (held p (frame p (vw.body v) f)) k).1

-- the frame that CT leads to, by its place, is valid and holds the cluster
pub named_valid : (p : Params) → Sizes p → (r : ℕ) (vw : View) → Fronts p r vw → (c : ℕ) → Entry p vw c
    → (valid p vw (vblock_of p (vw.seg_of c)) (last_in p (vw.body (vblock_of p (vw.seg_of c))) (place_of p (vw.seg_of c)) c) ≡ true)
    × (held p (frame p (vw.body (vblock_of p (vw.seg_of c))) (last_in p (vw.body (vblock_of p (vw.seg_of c))) (place_of p (vw.seg_of c)) c)) ≡ c)
named_valid p z r vw fs c e = (valid_out p vw (block_of p z r vw fs c e) (frame_of_lem p z r vw fs c e) (is_valid_lem p z r vw fs c e), held_is p z r vw fs c e)
