-- `chip_sizes::page_bytes`: s is small.
-- Assumes nothing.
use mathlib.Core.Path.{refl}
use native.Mathlib.Omega.{arith}
use Rattle.rules.specs.Parameters.{page_bytes}
use Rattle.rules.proofs.Sizes.{sizes}
use Rattle.chip_sizes.proofs.page_bytes.Goals as goal

pub overflow_add-result : goal.overflow_add-result
overflow_add-result c = let z = sizes _ c.requires in omega (arith, z.s_high)

pub returns : goal.returns
unfolding page_bytes
returns c = refl
