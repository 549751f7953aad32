-- `chip_spares::first_word`: the sum is the number of the bytes.
-- Assumes nothing.
use mathlib.Core.Path.{sym}
use Rattle.chip_spares.proofs.Words.{first_is}
use Rattle.chip_spares.proofs.first_word.Goals as goal

pub returns : goal.returns
returns c = sym (first_is _ _ _ _)
