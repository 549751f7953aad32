-- `start_clusters::take_regions`: after r turns the first r regions are taken.
-- Assumes nothing.
use mathlib.Core.Path.{◌≡◌}
use Rattle.start_clusters.specs.Newest.{newest_frames}
use Rattle.start_clusters.proofs.take_regions.Given as goal

abbrev pub invariant-loop-r : goal.invariant-loop-r
invariant-loop-r l = (l.ct ≡ newest_frames l.p l.chip l.bt l.r 0)
