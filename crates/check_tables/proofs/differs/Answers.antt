-- `check_tables::differs`: no lower entry names the same block.
-- Assumes nothing.
use mathlib.Core.Path.{refl}
use Rattle.std.proofs.Common.{rules, tests}
use Rattle.loops.proofs.Ranges.{all_run}
use Rattle.check_tables.specs.Entries.{differs}
use Rattle.check_tables.proofs.differs.Goals as goal

pub returns : goal.returns
unfolding differs
returns c = all_run _ _ _ _ refl c.all.ensures.ran (λ x b q k. search (rules, tests))
