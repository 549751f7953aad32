-- `chip_worn::clear_block`: the erase and its count.
-- Assumes nothing.
use Rattle.lists.proofs.Parts.{next}
use Rattle.rules.specs.Traces.{on_chip, on_wear}
use Rattle.chip_worn.proofs.clear_block.Goals as goal

pub erase_at-requires : goal.erase_at-requires
erase_at-requires c = rw (c.block_bytes-w.ensures, c.requires.chip_len) (next _ _ _ c.requires.n_lt_n)

pub returns : goal.returns
unfolding on_chip on_wear
returns c =
    record {
      chip_after = rw (← c.block_bytes-w.ensures) c.erase_at.ensures;
      wear_after = c.count_erase.ensures;
    }
