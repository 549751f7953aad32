-- `check_apart::lack_before`: no block has such a frame.
-- Assumes nothing.
use mathlib.Core.Path.{refl}
use Rattle.std.proofs.Common.{rules, tests}
use Rattle.loops.proofs.Ranges.{all_run}
use Rattle.check_apart.specs.Apart.{lack_before}
use Rattle.check_apart.proofs.lack_before.Goals as goal

pub returns : goal.returns
unfolding lack_before
returns c = all_run _ _ _ _ refl c.all.ensures.ran (λ x b q k. search (rules, tests))
