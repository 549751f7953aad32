-- `chip_sizes::pages`: the product is small, by the table of allowed parameters.
-- Assumes nothing.
use native.Mathlib.Omega.{arith}
use Rattle.rules.specs.Parameters.{pages}
use Rattle.rules.proofs.Sizes.{sizes}
use Rattle.chip_sizes.proofs.pages.Goals as goal

pub overflow_mul-result : goal.overflow_mul-result
unfolding pages
overflow_mul-result c = let z = sizes _ c.requires in rw c.frames-f.ensures (omega (arith, z.pages_high))

pub returns : goal.returns
unfolding pages
returns c = rw c.frames-f.ensures
