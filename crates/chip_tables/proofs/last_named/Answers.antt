-- `chip_tables::last_named`: the entry is that of the table.
use Rattle.std.proofs.Common.{rules}
use Rattle.rules.specs.Tables.{fst_at}
use Rattle.chip_tables.proofs.last_named.Goals as goal

pub returns : goal.returns
unfolding fst_at
returns c = search rules
