-- `chip_tables::bt_entry`: an entry of BT.
-- Assumes nothing.
use borrow.Author.Rules.{rules}
use Rattle.rules.specs.Tables.{bt_entry}
use Rattle.chip_tables.proofs.bt_entry.Goals as goal

pub returns : goal.returns
unfolding bt_entry
returns c =
    record {
      result_value = search rules;
      result_bound = search rules;
    }
