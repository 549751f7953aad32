-- `write_reclaim::reclaim`: the frames with a mark are copied first, and the victim is erased last, with its mark where it is worn.
-- Assumes nothing.
use mathlib.Core.Path.{◌∙◌}
use Rattle.write_reclaim.proofs.Copies.{reclaimed}
use Rattle.write_reclaim.proofs.reclaim.Goals as goal

pub copy_marked-k-requires : goal.copy_marked-k-requires
copy_marked-k-requires c =
    let a = c.requires in
    record {
      from_to = a.blocks;
      words_asked = a.words;
    }

pub erase_block-requires : goal.erase_block-requires
erase_block-requires c =
    let a = c.requires.blocks.between in
    record {
      p_value = a.whole.fine;
      chip_len = c.copy_marked-k.auto.chip ∙ a.whole.size;
      wear_len = c.requires.wear_length;
      n_lt_n = a.from;
    }

pub returns : goal.returns
returns c m e = reclaimed _ _ _ _ _ _ _ _ _ _ _ (c.copy_marked-k.ensures m e) _ _ c.erase_block.ensures.chip_after c.erase_block.ensures.wear_after
