-- `chip_pages::program_at`: the lent part is the page.
-- Assumes nothing.
use Rattle.lists.specs.Parts.{part}
use Rattle.loops.proofs.Lent.{back, width}
use Rattle.chip_pages.proofs.program_at.Goals as goal

pub program-requires : goal.program-requires
unfolding part
program-requires c = rw width c.requires.clean

pub returns : goal.returns
returns c = rw (width, c.program.ensures) (back _ _ _ _)
