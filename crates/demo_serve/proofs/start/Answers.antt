-- `demo_serve::start`: the format of Board T.
-- Assumes nothing.
use Rattle.demo_serve.proofs.Turns.{start_text, started}
use Rattle.demo_serve.proofs.start.Goals as goal

pub returns-clause-started : goal.returns-clause-started
returns-clause-started g c = started _ _ (rw c.board.ensures at c.format-a.ensures)

pub returns-clause-text : goal.returns-clause-text
returns-clause-text g c = rw (start_text _ _ (rw c.board.ensures at c.format-a.ensures)) at (rw (c.as_slice.ensures.value, c.print_format.ensures) at c.write_all.ensures.bytes)
