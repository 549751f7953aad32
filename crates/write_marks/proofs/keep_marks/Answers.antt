-- `write_marks::keep_marks`: the three steps, one after the other.
-- Assumes nothing.
use borrow.Author.Rules.{rules}
use Rattle.write_marks.proofs.keep_marks.Goals as goal

pub set_mark-requires : goal.set_mark-requires
set_mark-requires c = record { words = search rules; frame = c.requires.mark_asked.frame }

pub returns : goal.returns
returns c = λ m e. c.set_mark.ensures _ (c.unmark.ensures _ (c.mark_copies.ensures m e))
