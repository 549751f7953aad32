-- `check_names::used_ok`: every block is used exactly if it is named.
-- Assumes nothing.
use mathlib.Core.Path.{refl}
use Rattle.std.proofs.Common.{rules, tests}
use Rattle.loops.proofs.Ranges.{all_run}
use Rattle.rules.specs.Orderly.{used_rule}
use Rattle.check_names.proofs.used_ok.Goals as goal

pub returns : goal.returns
unfolding used_rule
returns c = all_run _ _ _ _ refl c.all.ensures.ran (λ x b q k. search (rules, tests))
