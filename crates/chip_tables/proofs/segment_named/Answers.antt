-- `chip_tables::segment_named`: the entry is that of the table.
use Rattle.std.proofs.Common.{rules}
use Rattle.rules.specs.Tables.{ct_at}
use Rattle.chip_tables.proofs.segment_named.Goals as goal

pub returns : goal.returns
unfolding ct_at
returns c = search rules
