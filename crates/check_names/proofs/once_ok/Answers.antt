-- `check_names::once_ok`: every entry names a block that no other names.
-- Assumes nothing.
use mathlib.Core.Path.{refl}
use Rattle.std.proofs.Common.{rules, tests}
use Rattle.loops.proofs.Ranges.{all_run}
use Rattle.rules.specs.Orderly.{once_rule}
use Rattle.check_names.proofs.once_ok.Goals as goal

pub returns : goal.returns
unfolding once_rule
returns c = rw (← c.requires) (all_run _ _ _ _ refl c.all.ensures.ran (λ x b q k. search (rules, tests)))
