-- `chip_tables::count_erase`: the entry that is stored is the one that was read, and one more.
use Rattle.rules.specs.Tables.{wear_at}
use Rattle.chip_tables.proofs.count_erase.Goals as goal

pub returns : goal.returns
unfolding wear_at
returns c = cc
