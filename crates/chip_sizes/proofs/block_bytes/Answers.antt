-- `chip_sizes::block_bytes`: the product is small.
-- Assumes nothing.
use native.Mathlib.Omega.{arith}
use Rattle.rules.specs.Parameters.{block_bytes}
use Rattle.rules.proofs.Sizes.{sizes}
use Rattle.chip_sizes.proofs.block_bytes.Goals as goal

pub overflow_mul-result : goal.overflow_mul-result
unfolding block_bytes
overflow_mul-result c = let z = sizes _ c.requires in rw (c.frames-f.ensures, c.frame_bytes-w.ensures) (omega (arith, z.block_high))

pub returns : goal.returns
unfolding block_bytes
returns c = rw (c.frames-f.ensures, c.frame_bytes-w.ensures)
