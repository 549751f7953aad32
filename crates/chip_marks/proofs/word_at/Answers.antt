-- `chip_marks::word_at`: the entry at the word's place.
-- Assumes nothing.
use Rattle.rules.specs.Tables.{word_at}
use Rattle.chip_marks.proofs.word_at.Goals as goal

pub returns : goal.returns
unfolding word_at
returns c = rw c.word_index-i.ensures.value
