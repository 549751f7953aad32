-- `check_apart::lacks`: no frame is such a frame.
-- Assumes nothing.
use mathlib.Core.Path.{refl}
use Rattle.std.proofs.Common.{rules, tests}
use Rattle.loops.proofs.Ranges.{all_run}
use Rattle.check_apart.specs.Apart.{lacks}
use Rattle.check_apart.proofs.lacks.Goals as goal

pub returns : goal.returns
unfolding lacks
returns c = all_run _ _ _ _ refl c.all.ensures.ran (λ x b q k. search (rules, tests))
