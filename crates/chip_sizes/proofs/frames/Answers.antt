-- `chip_sizes::frames`: the product is small, by the table of allowed parameters.
-- Assumes nothing.
use mathlib.Core.Path.{refl}
use native.Mathlib.Omega.{arith}
use Rattle.rules.specs.Parameters.{frames}
use Rattle.rules.proofs.Sizes.{sizes}
use Rattle.chip_sizes.proofs.frames.Goals as goal

pub overflow_mul-result : goal.overflow_mul-result
unfolding frames
overflow_mul-result c = let z = sizes _ c.requires in omega (arith, z.short)

pub returns : goal.returns
unfolding frames
returns c = refl
