-- `start_found::region_frames`: the product is small, by the table of allowed parameters.
-- Assumes nothing.
use native.Mathlib.Omega.{arith}
use Rattle.rules.specs.Regions.{region_frames}
use Rattle.start_found.proofs.Views.{region_few}
use Rattle.start_found.proofs.region_frames.Goals as goal

pub overflow_mul-result : goal.overflow_mul-result
unfolding region_frames
overflow_mul-result c = rw c.frames.ensures (omega (arith, region_few _ c.requires))

pub returns : goal.returns
unfolding region_frames
returns c = rw c.frames.ensures
