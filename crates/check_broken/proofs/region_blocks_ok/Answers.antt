-- `check_broken::region_blocks_ok`: every virtual block is as it should be.
-- Assumes nothing.
use mathlib.Core.Path.{refl}
use Rattle.std.proofs.Common.{rules, tests}
use Rattle.loops.proofs.Ranges.{all_run}
use Rattle.check_broken.specs.Tests.{region_blocks_ok}
use Rattle.check_broken.proofs.region_blocks_ok.Goals as goal

pub returns : goal.returns
unfolding region_blocks_ok
returns c = all_run _ _ _ _ refl c.all.ensures.ran (λ x b q k. search (rules, tests))
