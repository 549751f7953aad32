-- `check_blocks::frees_ok`: every block passes.
-- Assumes nothing.
use mathlib.Core.Path.{refl}
use Rattle.std.proofs.Common.{rules, tests}
use Rattle.loops.proofs.Ranges.{all_run}
use Rattle.rules.specs.Orderly.{free_rule}
use Rattle.check_blocks.proofs.frees_ok.Goals as goal

pub returns : goal.returns
unfolding free_rule
returns c = all_run _ _ _ _ refl c.all.ensures.ran (λ x b q k. search (rules, tests))
