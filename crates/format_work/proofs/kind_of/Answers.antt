-- `format_work::kind_of`: by the block's mark.
-- Assumes nothing.
use Rattle.format_work.proofs.kind_of.Goals as goal

pub returns-then-is_bad : goal.returns-then-is_bad
returns-then-is_bad c = rw (← c.is_bad.ensures, c.if-is_bad.true)

pub returns : goal.returns
returns c = rw (← c.is_bad.ensures, c.if-is_bad.false)
