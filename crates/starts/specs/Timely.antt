-- T-07: what the stamps of a region's whole frames say where its frames were written one after the other.
-- Assumes nothing.
use Rattle.std.specs.Prelude.{ℕ, ◌/◌, ◌≤◌, ◌<◌, ◌≡◌, true}
use Rattle.rules.specs.declared.Params.{Params}
use Rattle.rules.specs.Parameters.{frames}
use Rattle.rules.specs.Tables.{none}
use Rattle.rules.specs.Pages.{frame, holds, stamp_of}
use Rattle.rules.specs.Regions.{View, frame_of}

-- frame f of virtual block v is a whole frame of cluster c
pub record WholeAt (p : Params) (vw : View) (c v f : ℕ) : Type 0 where
  pub block : v < p.gamma
  pub low : f < frames p
  pub whole : holds p (frame p (vw.body v) f) c ≡ true

-- the stamp of frame f of virtual block v
abbrev pub frame_stamp : Params → View → ℕ → ℕ → ℕ
frame_stamp p vw v f = stamp_of p (frame p (vw.body v) f)

pub record Timely (p : Params) (vw : View) : Type 0 where
  -- "whole frames of a cluster have different stamps": two with one stamp are one frame, the same of the same virtual block
  pub apart : (c v f u g : ℕ) → WholeAt p vw c v f → WholeAt p vw c u g → frame_stamp p vw v f ≡ frame_stamp p vw u g → (v ≡ u) × (f ≡ g)
  -- "later ones of a segment larger ones": of two whole frames of a cluster in one segment the later has the larger stamp
  pub rises : (c v f g : ℕ) → WholeAt p vw c v f → WholeAt p vw c v g → f / p.beta ≡ g / p.beta → f < g → frame_stamp p vw v f < frame_stamp p vw v g
  -- "the valid frame has the largest": where CT has an entry for the cluster, no whole frame of it has a larger stamp than its valid frame
  pub newest : (c u g : ℕ) → (vw.seg_of c ≡ none → ⊥) → WholeAt p vw c u g → frame_stamp p vw u g ≤ stamp_of p (frame_of p vw c)
