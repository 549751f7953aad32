-- `check_tables::bt_ok`: every entry is none or names a block.
-- Assumes nothing.
use mathlib.Core.Path.{refl}
use Rattle.std.proofs.Common.{rules, tests}
use Rattle.loops.proofs.Ranges.{all_run}
use Rattle.rules.specs.Orderly.{bt_rule}
use Rattle.check_tables.proofs.bt_ok.Goals as goal

pub returns : goal.returns
unfolding bt_rule
returns c = rw (← c.requires) (all_run _ _ _ _ refl c.all.ensures.ran (λ x b q k. search (rules, tests)))
