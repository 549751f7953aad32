-- `chip_blocks::looked`: the test is whether the frame is programmed.
-- Assumes nothing.
use Rattle.chip_blocks.proofs.looked.Goals as goal

pub returns-then-is_programmed : goal.returns-then-is_programmed
returns-then-is_programmed c = rw (← c.is_programmed.ensures, c.if-is_programmed.true)

pub returns-else-is_programmed : goal.returns-else-is_programmed
returns-else-is_programmed c = rw (← c.is_programmed.ensures, c.if-is_programmed.false)
