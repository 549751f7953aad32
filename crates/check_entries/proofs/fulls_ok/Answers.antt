-- `check_entries::fulls_ok`: every virtual block is as it should be.
-- Assumes nothing.
use mathlib.Core.Path.{refl}
use Rattle.std.proofs.Common.{rules, tests}
use Rattle.loops.proofs.Ranges.{all_run}
use Rattle.check_entries.proofs.fulls_ok.Goals as goal

pub returns : goal.returns
returns c = all_run _ _ _ _ refl c.all.ensures.ran (λ x b q k. search (rules, tests))
