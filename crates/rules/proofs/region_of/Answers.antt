-- `rules::region_of`: all numbers fit 32 bits.
-- Assumes nothing.
use native.Mathlib.Nat.{mod-lt}
use native.Mathlib.Omega.{arith}
use Rattle.rules.proofs.Sizes.{sizes}
use Rattle.rules.proofs.region_of.Goals as goal

pub overflow_cast-result : goal.overflow_cast-result
overflow_cast-result c = let z = sizes _ c.requires.p_value in omega (arith, c.requires.c_lt_c)

pub overflow_cast-result-2 : goal.overflow_cast-result-2
overflow_cast-result-2 c = let z = sizes _ c.requires.p_value in omega arith

pub nonzero_rem-result : goal.nonzero_rem-result
nonzero_rem-result c = let z = sizes _ c.requires.p_value in omega arith

pub overflow_cast-result-3 : goal.overflow_cast-result-3
overflow_cast-result-3 c = let z = sizes _ c.requires.p_value in omega (arith, mod-lt c.args.c.0 z.regions)
