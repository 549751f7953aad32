-- `chip_tables::fst_at`: an entry of FST.
-- Assumes nothing.
use borrow.Author.Rules.{rules}
use Rattle.rules.specs.Tables.{fst_at}
use Rattle.chip_tables.proofs.fst_at.Goals as goal

pub returns : goal.returns
unfolding fst_at
returns c =
    record {
      result_value = search rules;
      result_bound = search rules;
    }
