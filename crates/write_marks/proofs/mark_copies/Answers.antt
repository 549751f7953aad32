-- `write_marks::mark_copies`: by whether a block was erased.
-- Assumes nothing.
use borrow.Author.Tests.{eq-eqb, ne_eqb}
use Rattle.write_marks.proofs.mark_copies.Goals as goal

pub returns-then-erases-ne0 : goal.returns-then-erases-ne0
returns-then-erases-ne0 c = λ m e. rw (ne_eqb c.args.erases 0 c.if-erases-ne0.true) (c.set_first.ensures m e)

pub returns-else-erases-ne0 : goal.returns-else-erases-ne0
returns-else-erases-ne0 c = λ m e. rw (eq-eqb c.args.erases 0 c.if-erases-ne0.false) e
