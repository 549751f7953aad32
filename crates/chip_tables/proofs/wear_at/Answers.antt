-- `chip_tables::wear_at`: the entry of the table.
-- Assumes nothing.
use mathlib.Core.Path.{refl}
use Rattle.rules.specs.Tables.{wear_at}
use Rattle.chip_tables.proofs.wear_at.Goals as goal

pub returns : goal.returns
unfolding wear_at
returns c = refl
