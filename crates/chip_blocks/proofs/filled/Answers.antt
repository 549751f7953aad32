-- `chip_blocks::filled`: the frames that the filter keeps are those that are programmed.
use Rattle.std.proofs.Common.{rules, tests}
use Rattle.loops.proofs.Ranges.{count_run}
use Rattle.rules.specs.Pages.{filled}
use Rattle.chip_blocks.proofs.filled.Goals as goal

pub returns : goal.returns
unfolding filled
returns c = rw (← c.frames.ensures) (count_run _ _ _ _ c.filter.ensures.source c.filter.ensures.closure c.count.ensures.ran (λ x b q k. search (rules, tests)))
