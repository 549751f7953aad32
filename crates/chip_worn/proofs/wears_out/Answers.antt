-- `chip_worn::wears_out`: the entry, and one erase more.
-- Assumes nothing.
use Rattle.rules.specs.Traces.{worn}
use Rattle.chip_worn.proofs.wears_out.Goals as goal

pub returns : goal.returns
unfolding worn
returns c = rw c.wear_at-w.ensures
