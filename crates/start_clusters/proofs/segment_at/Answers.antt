-- `start_clusters::segment_at`: the number over β.
-- Assumes nothing.
use native.Mathlib.Omega.{arith}
use Rattle.rules.proofs.Sizes.{sizes}
use Rattle.start_clusters.proofs.Segments.{segment_none, segment_some}
use Rattle.start_clusters.proofs.segment_at.Goals as goal

pub returns-then-i-eq-NONE : goal.returns-then-i-eq-NONE
returns-then-i-eq-NONE c = segment_none _ c.requires _ c.if-i-eq-NONE.true

pub overflow_cast-result : goal.overflow_cast-result
overflow_cast-result c = omega (arith, (sizes _ c.requires).beta_high)

pub nonzero_div-result : goal.nonzero_div-result
nonzero_div-result c = omega (arith, (sizes _ c.requires).per_segment)

pub returns : goal.returns
returns c = segment_some _ c.requires _ c.if-i-eq-NONE.false
