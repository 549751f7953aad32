-- `check_tables::bst_ok`: every block is 0, 1 or 2.
-- Assumes nothing.
use mathlib.Core.Path.{refl}
use Rattle.std.proofs.Common.{rules, tests}
use Rattle.loops.proofs.Ranges.{all_run}
use Rattle.rules.specs.Orderly.{bst_rule}
use Rattle.check_tables.proofs.bst_ok.Goals as goal

pub returns : goal.returns
unfolding bst_rule
returns c = all_run _ _ _ _ refl c.all.ensures.ran (λ x b q k. search (rules, tests))
