-- `chip_sizes::in_ranges`: the nine tests, in their order.
-- Assumes nothing.
use Rattle.chip_sizes.specs.Checks.{in_ranges}
use Rattle.chip_sizes.proofs.in_ranges.Goals as goal

pub returns : goal.returns
unfolding in_ranges
returns c = cc
