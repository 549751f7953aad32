-- `check_names::is_named`: some entry names the block.
-- Assumes nothing.
use mathlib.Core.Path.{refl}
use Rattle.std.proofs.Common.{rules, tests}
use Rattle.loops.proofs.Ranges.{any_run}
use Rattle.rules.specs.Orderly.{named}
use Rattle.check_names.proofs.is_named.Goals as goal

pub returns : goal.returns
unfolding named
returns c = rw (← c.requires) (any_run _ _ _ _ refl c.any.ensures.ran (λ x b q k. search (rules, tests)))
