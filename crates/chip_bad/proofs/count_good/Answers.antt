-- `chip_bad::count_good`: the blocks that the filter keeps are those that stay good.
use Rattle.std.proofs.Common.{rules, tests}
use Rattle.loops.proofs.Ranges.{count_run}
use Rattle.rules.specs.Format.{good_blocks}
use Rattle.chip_bad.proofs.count_good.Goals as goal

pub returns : goal.returns
unfolding good_blocks
returns c = count_run _ _ _ _ c.filter.ensures.source c.filter.ensures.closure c.count.ensures.ran (λ x b q k. search (rules, tests))
