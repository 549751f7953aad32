-- `start_marks::mark_frame`: the mark is set, or the table of the marks so far stays the same.
-- Assumes nothing.
use mathlib.Core.Path.{sym, ◌∙◌}
use native.Mathlib.Omega.{arith}
use Rattle.rules.proofs.Sizes.{sizes}
use Rattle.start_marks.proofs.Turns.{marks_put, marks_skip}
use Rattle.start_marks.proofs.mark_frame.Goals as goal

pub nonzero_div-k : goal.nonzero_div-k
nonzero_div-k c = omega (arith, (sizes _ c.requires.one_frame.block.fine).per_segment)

pub returns-then-is_valid : goal.returns-then-is_valid
returns-then-is_valid c = λ views s e. c.set_mark.ensures _ e ∙ marks_put _ views _ _ _ c.requires.one_frame.block.low c.requires.one_frame.low (sym (c.is_valid.ensures _ _ s) ∙ c.if-is_valid.true)

pub returns-else-is_valid : goal.returns-else-is_valid
returns-else-is_valid c = λ views s e. e ∙ marks_skip _ views _ _ _ c.requires.one_frame.block.low c.requires.one_frame.low (sym (c.is_valid.ensures _ _ s) ∙ c.if-is_valid.false)
