-- `start_found::has_frame`: BT's entry of the frame's virtual block, by the quotient.
-- Assumes nothing.
use native.Mathlib.Omega.{arith}
use Rattle.start_found.proofs.Views.{divisor, vblock_is_low}
use Rattle.start_found.proofs.has_frame.Goals as goal

pub nonzero_div-v : goal.nonzero_div-v
nonzero_div-v c = omega (arith, divisor _ c.requires.p_value _ _ c.requires.i_bound c.frames.ensures)

pub block_named-requires-clause-v_lt_gamma : goal.block_named-requires-clause-v_lt_gamma
block_named-requires-clause-v_lt_gamma c = vblock_is_low _ c.requires.p_value _ _ c.requires.i_bound c.frames.ensures
