-- `chip_spares::is_whole`: byte 6 of the last spare area.
-- Assumes nothing.
use mathlib.Core.Path.{sym}
use native.Mathlib.Omega.{arith}
use Rattle.rules.proofs.Sizes.{sizes}
use Rattle.chip_spares.proofs.Spares.{last_fits, whole_is}
use Rattle.chip_spares.proofs.is_whole.Goals as goal

pub overflow_sub-a : goal.overflow_sub-a
overflow_sub-a c = last_fits c.args.p c.args.frame.now (sizes _ c.requires.p_value).sectors c.requires.frame_len

pub overflow_add-a : goal.overflow_add-a
overflow_add-a c = omega (arith, last_fits c.args.p c.args.frame.now (sizes _ c.requires.p_value).sectors c.requires.frame_len)

pub bounds-frame-a : goal.bounds-frame-a
bounds-frame-a c = omega (arith, last_fits c.args.p c.args.frame.now (sizes _ c.requires.p_value).sectors c.requires.frame_len)

pub returns : goal.returns
returns c = sym (whole_is c.args.p c.args.frame.now (sizes _ c.requires.p_value).sectors c.requires.frame_len)
