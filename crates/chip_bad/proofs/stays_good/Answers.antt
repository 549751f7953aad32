-- `chip_bad::stays_good`: by the block's mark, then by its wear.
-- Assumes nothing.
use Rattle.chip_bad.proofs.stays_good.Goals as goal

pub returns-then-is_bad : goal.returns-then-is_bad
returns-then-is_bad c = rw (← c.is_bad.ensures, c.if-is_bad.true)

pub returns : goal.returns
returns c = rw (← c.is_bad.ensures, c.if-is_bad.false, c.wears_out.ensures)
