-- `start_clusters::to_segments`: after c turns the first c entries are segments.
-- Assumes nothing.
use mathlib.Core.Path.{refl, ◌∙◌}
use native.Mathlib.Omega.{arith}
use lib.ListN.{length-set}
use Rattle.start_clusters.proofs.Segments.{segments_all, segments_more, segments_none}
use Rattle.start_clusters.proofs.to_segments.Goals as goal

pub loop-c-init : goal.loop-c-init
loop-c-init c = (refl, segments_none _ _)

pub loop-c-preserved : goal.loop-c-preserved
loop-c-preserved c =
    let so = c.loop-c.invariant in
    (simp length-set so.0, segments_more _ _ _ _ _ (omega (arith, so.0)) so.1 c.segment_at.ensures)

pub returns : goal.returns
returns c = c.loop-c.invariant.1 ∙ segments_all _ _ _ (omega (arith, c.loop-c.invariant.0))
