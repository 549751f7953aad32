-- `chip_tables::ct_at`: an entry of CT.
-- Assumes nothing.
use borrow.Author.Rules.{rules}
use Rattle.rules.specs.Tables.{ct_at}
use Rattle.chip_tables.proofs.ct_at.Goals as goal

pub returns : goal.returns
unfolding ct_at
returns c =
    record {
      result_value = search rules;
      result_bound = search rules;
    }
