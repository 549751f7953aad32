-- `chip_spares::vblock_in`: byte 11 of the first spare area.
-- Assumes nothing.
use mathlib.Core.Path.{sym}
use native.Mathlib.Omega.{arith}
use Rattle.rules.proofs.Sizes.{sizes}
use Rattle.chip_spares.proofs.Spares.{first_page, vblock_is_lem}
use Rattle.chip_spares.proofs.vblock_in.Goals as goal

pub overflow_add-a : goal.overflow_add-a
overflow_add-a c = omega (arith, sizes _ c.requires.p_value)

pub bounds-frame-a : goal.bounds-frame-a
bounds-frame-a c = let b = sizes _ c.requires.p_value in omega (arith, first_page c.args.p b.sectors, c.requires.frame_len)

pub returns : goal.returns
returns c = let b = sizes _ c.requires.p_value in sym (vblock_is_lem _ _ (omega (arith, first_page c.args.p b.sectors, c.requires.frame_len)))
