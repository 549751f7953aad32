-- `read_work::find_again`: where nothing moved, what was found before stands.
-- Assumes nothing.
use Rattle.read_work.proofs.find_again.Goals as goal

pub returns : goal.returns
returns c =
    record {
      stands_2 = c.requires.stands c.if-erases-ne0.false;
      within_2 = c.requires.within c.if-erases-ne0.false;
    }
