-- `chip_tables::bst_at`: the entry of the table.
-- Assumes nothing.
use mathlib.Core.Path.{refl}
use Rattle.rules.specs.Tables.{bst_at}
use Rattle.chip_tables.proofs.bst_at.Goals as goal

pub returns : goal.returns
unfolding bst_at
returns c = refl
