-- `rules::vblock_of`: all numbers fit 32 bits.
-- Assumes nothing.
use native.Mathlib.Nat.{div-le_self}
use native.Mathlib.Omega.{arith}
use Rattle.rules.proofs.Sizes.{sizes}
use Rattle.rules.proofs.vblock_of.Goals as goal

pub overflow_cast-result-2 : goal.overflow_cast-result-2
overflow_cast-result-2 c = let z = sizes _ c.requires.p_value in omega arith

pub nonzero_div-result : goal.nonzero_div-result
nonzero_div-result c = let z = sizes _ c.requires.p_value in omega arith

pub overflow_cast-result-3 : goal.overflow_cast-result-3
overflow_cast-result-3 c = omega (arith, div-le_self c.args.sg.0 c.args.p.d)
