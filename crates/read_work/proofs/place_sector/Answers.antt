-- `read_work::place_sector`: the part that was lent comes back as the sector.
-- Assumes nothing.
use Rattle.loops.proofs.Lent.{width, back}
use Rattle.read_work.proofs.place_sector.Goals as goal

pub returns : goal.returns
returns c = rw (width, c.read_sector.ensures) (back _ _ _ _)
