-- `chip_spares::stamp_in`: bytes 7 to 10 of the first spare area.
-- Assumes nothing.
use mathlib.Core.Path.{sym, ◌∙◌}
use native.Mathlib.Omega.{arith}
use Rattle.rules.proofs.Sizes.{sizes}
use Rattle.chip_spares.proofs.Spares.{first_page, stamp_is}
use Rattle.chip_spares.proofs.stamp_in.Goals as goal

pub overflow_add-p : goal.overflow_add-p
overflow_add-p c = omega (arith, sizes _ c.requires.p_value)

pub half-requires : goal.half-requires
half-requires c = let b = sizes _ c.requires.p_value in omega (arith, first_page c.args.p b.sectors, c.requires.frame_len)

pub overflow_cast-result : goal.overflow_cast-result
overflow_cast-result c = omega (arith, c.half.ensures.upper_bound)

pub returns : goal.returns
returns c = c.half.ensures.value ∙ sym (stamp_is c.args.p c.args.frame.now)
