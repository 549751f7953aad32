-- `chip_sizes::within`: by the first comparison.
-- Assumes nothing.
use borrow.Author.Tests.{lt-leb, le-leb}
use Rattle.rules.specs.Parameters.{within}
use Rattle.chip_sizes.proofs.within.Goals as goal

pub returns-then-x-lo : goal.returns-then-x-lo
unfolding within
returns-then-x-lo c = rw (lt-leb _ _ c.if-x-lo.true)

pub returns : goal.returns
unfolding within
returns c = rw (le-leb _ _ c.if-x-lo.false)
