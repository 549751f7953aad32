-- `chip_erased::is_full`: as the definition says.
-- Assumes nothing.
use mathlib.Core.Path.{refl}
use Rattle.chip_erased.specs.Full.{full, ones}
use Rattle.chip_erased.proofs.is_full.Goals as goal

pub returns : goal.returns
unfolding full ones
returns c = refl
