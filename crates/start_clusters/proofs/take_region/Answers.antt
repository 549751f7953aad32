-- `start_clusters::take_region`: after i turns the first i frames of the region are taken.
-- Assumes nothing.
use mathlib.Core.Path.{◌∙◌}
use native.Mathlib.Omega.{arith}
use Rattle.start_clusters.proofs.Newest.{frames_next}
use Rattle.start_clusters.proofs.take_region.Goals as goal

pub returns : goal.returns
returns c = c.loop-i.invariant ∙ frames_next _ _ _ _ _ (omega (arith, c.region_frames-i-end.ensures))
