-- `chip_sizes::frame_bytes`: the product is small.
-- Assumes nothing.
use native.Mathlib.Omega.{arith}
use Rattle.rules.specs.Parameters.{frame_bytes}
use Rattle.rules.proofs.Sizes.{sizes}
use Rattle.chip_sizes.proofs.frame_bytes.Goals as goal

pub overflow_mul-result : goal.overflow_mul-result
unfolding frame_bytes
overflow_mul-result c = let z = sizes _ c.requires in rw c.page_bytes.ensures (omega (arith, z.frame_high))

pub returns : goal.returns
unfolding frame_bytes
returns c = rw c.page_bytes.ensures
