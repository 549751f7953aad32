-- `chip_spares::is_programmed`: byte 6 of the first spare area.
-- Assumes nothing.
use mathlib.Core.Path.{sym}
use native.Mathlib.Omega.{arith}
use Rattle.rules.proofs.Sizes.{sizes}
use Rattle.chip_spares.proofs.Spares.{first_page, programmed_is}
use Rattle.chip_spares.proofs.is_programmed.Goals as goal

pub overflow_add-a : goal.overflow_add-a
overflow_add-a c = omega (arith, sizes _ c.requires.p_value)

pub bounds-frame-a : goal.bounds-frame-a
bounds-frame-a c = let b = sizes _ c.requires.p_value in omega (arith, first_page c.args.p b.sectors, c.requires.frame_len)

pub returns : goal.returns
returns c = let b = sizes _ c.requires.p_value in sym (programmed_is _ _ (omega (arith, first_page c.args.p b.sectors, c.requires.frame_len)))
