-- `chip_tables::entry_named`: the entry is that of the table.
use Rattle.std.proofs.Common.{rules}
use Rattle.rules.specs.Tables.{bt_entry}
use Rattle.chip_tables.proofs.entry_named.Goals as goal

pub returns : goal.returns
unfolding bt_entry
returns c = search rules
