-- `check_tables::empty_at`: no entry names a block.
-- Assumes nothing.
use mathlib.Core.Path.{refl}
use Rattle.std.proofs.Common.{rules, tests}
use Rattle.loops.proofs.Ranges.{all_run}
use Rattle.check_tables.specs.Entries.{empty_at}
use Rattle.check_tables.proofs.empty_at.Goals as goal

pub returns : goal.returns
unfolding empty_at
returns c = all_run _ _ _ _ refl c.all.ensures.ran (λ x b q k. search (rules, tests))
