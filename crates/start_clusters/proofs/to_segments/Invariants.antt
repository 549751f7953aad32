-- `start_clusters::to_segments`: after c turns the first c entries are segments.
-- Assumes nothing.
use mathlib.Core.Path.{◌≡◌}
use lib.ListN.{length}
use Rattle.start_clusters.proofs.Segments.{segments_to}
use Rattle.start_clusters.proofs.to_segments.Given as goal

abbrev pub invariant-loop-c : goal.invariant-loop-c
invariant-loop-c l = (length l.ct ≡ length l.initial.ct) × (l.ct ≡ segments_to l.p l.initial.ct l.c-index)
