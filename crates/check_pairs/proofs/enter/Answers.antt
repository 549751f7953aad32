-- `check_pairs::enter`: a block that is elsewhere takes no place, and any other the place that `place` gives it.
-- Assumes nothing.
use Rattle.rules.proofs.Sizes.{sizes}
use Rattle.check_pairs.proofs.Enters.{stays_elsewhere}
use Rattle.check_pairs.proofs.enter.Goals as goal

pub returns-then-elsewhere : goal.returns-then-elsewhere
returns-then-elsewhere c = stays_elsewhere _ (sizes _ c.requires.asked.fine) _ _ _ _ _ c.requires.row c.requires.row_2 (c.elsewhere.ensures c.if-elsewhere.true)
