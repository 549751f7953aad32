-- `chip_tables::stamp_at`: the entry of the table.
-- Assumes nothing.
use mathlib.Core.Path.{refl}
use Rattle.rules.specs.Tables.{stamp_at}
use Rattle.chip_tables.proofs.stamp_at.Goals as goal

pub returns : goal.returns
unfolding stamp_at
returns c = refl
