-- `start_clusters::take_region`: after i turns the first i frames of the region are taken.
-- Assumes nothing.
use mathlib.Core.Path.{◌≡◌}
use Rattle.start_clusters.specs.Newest.{newest_frames}
use Rattle.start_clusters.proofs.take_region.Given as goal

abbrev pub invariant-loop-i : goal.invariant-loop-i
invariant-loop-i l = (l.ct ≡ newest_frames l.p l.chip l.bt l.r l.i)
