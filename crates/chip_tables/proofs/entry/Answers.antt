-- `chip_tables::entry`: what is read is the entry that is there, whatever is said of one past the end.
-- Assumes nothing.
use Rattle.rules.specs.Tables.{none}
use Rattle.loops.proofs.Elements.{default}
use Rattle.chip_tables.proofs.entry.Goals as goal

pub returns-clause-value : goal.returns-clause-value
returns-clause-value c = default c.args.table.now c.args.i 0 none c.requires
