-- `chip_tables::block_named`: the entry is that of the virtual block.
use Rattle.rules.specs.Tables.{bt_at}
use Rattle.chip_tables.proofs.block_named.Goals as goal

pub returns : goal.returns
unfolding bt_at
returns c = c.entry_named.ensures
