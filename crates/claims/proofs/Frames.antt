-- The frame that a read takes is the one that document 01 names.
-- Assumes nothing.
use mathlib.Core.Path.{◌≡◌, refl}
use mathlib.Core.Logic.{◌⊎◌, inl, inr}
use Prim.Native.Nat.{ℕ, ◌<◌}
use native.Mathlib.Nat.{mod-lt}
use Rattle.rules.specs.declared.Params.{Params}
use Rattle.rules.specs.Parameters.{frames}
use Rattle.rules.specs.Numbers.{region_of}
use Rattle.rules.specs.Tables.{none}
use Rattle.rules.specs.Regions.{View, frame_of, view}
use Rattle.rules.proofs.Admitted.{orderly_region}
use Rattle.rules.proofs.RegionFacts.{Fronts, neat_fronts, Entry, Neat, neat}
use Rattle.rules.proofs.Sizes.{Sizes, sizes}
use Rattle.rules.proofs.ValidFrames.{block_of, frame_of_lem, held_is, is_valid_lem, only_valid}
use Rattle.rules.proofs.Victims.{valid_out}
use Rattle.claims.specs.Frames.{ReadsValidFrame, TheValidFrame}

-- ---- the frame that a read takes

the_frame : (p : Params) (z : Sizes p) (r : ℕ) (vw : View) (fs : Fronts p r vw) (c : ℕ) → Entry p vw c → (v : ℕ) × (f : ℕ) × (f < frames p) × TheValidFrame p vw c v f
the_frame p z r vw fs c e = (
  block_of p z r vw fs c e,
  frame_of_lem p z r vw fs c e,
  e.held,
  record {
    taken = unfold frame_of in refl;
    is = valid_out p vw (block_of p z r vw fs c e) (frame_of_lem p z r vw fs c e) (is_valid_lem p z r vw fs c e);
    holds = held_is p z r vw fs c e;
    only = only_valid p z r vw fs c e;
  },
)

pub valid_frame_read : ReadsValidFrame
valid_frame_read p b h c low ne = go (nt.entries c low)
  where
    z : Sizes p
    z = sizes p h.fine

    nt : Neat p (region_of p c) (view p b (region_of p c))
    nt = neat p (region_of p c) (view p b (region_of p c)) (orderly_region p b h.tidy (region_of p c) (mod-lt c z.regions))

    go : ((view p b (region_of p c)).seg_of c ≡ none) ⊎ Entry p (view p b (region_of p c)) c → (v : ℕ) × (f : ℕ) × (f < frames p) × TheValidFrame p (view p b (region_of p c)) c v f
    go (inl e) = absurd (ne e)
    go (inr e) = the_frame p z (region_of p c) (view p b (region_of p c)) (neat_fronts nt) c e
