-- `chip_pages::program_blank_at`: the lent part is the page.
-- Assumes nothing.
use Rattle.lists.specs.Parts.{part}
use Rattle.loops.proofs.Lent.{back, width}
use Rattle.chip_pages.proofs.program_blank_at.Goals as goal

pub program_blank-requires : goal.program_blank-requires
unfolding part
program_blank-requires c = rw width c.requires.clean

pub returns : goal.returns
returns c = rw (width, c.program_blank.ensures) (back _ _ _ _)
