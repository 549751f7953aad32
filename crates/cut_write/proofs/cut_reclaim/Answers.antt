-- `cut_write::cut_reclaim`: the copies as far as the k operations go; where fewer are left than erase the victim, they went past all copies, and the erase is made.
-- Assumes nothing.
use mathlib.Core.Path.{◌∙◌}
use native.Mathlib.Omega.{arith}
use Rattle.cut_write.proofs.Firsts.{only_copies, with_erase}
use Rattle.cut_write.proofs.cut_reclaim.Goals as goal

pub clear_block-requires : goal.clear_block-requires
clear_block-requires c =
    let a = c.requires.between in
    record {
      p_value = a.whole.fine;
      chip_len = c.chip-1.given ∙ a.whole.size;
      wear_len = c.requires.wear_len;
      n_lt_n = a.from;
    }

pub returns-then-room-k : goal.returns-then-room-k
returns-then-room-k c m e all =
    with_erase _ _ _ _ _ _ _ _ c.requires.k_lt_room all _ (c.copy_first.ensures m e) (omega (arith, c.if-room-k.true, c.erase_ops.ensures.value)) _ _
    c.clear_block.ensures.chip_after c.clear_block.ensures.wear_after

pub returns-else-room-k : goal.returns-else-room-k
returns-else-room-k c m e all = only_copies _ _ _ _ _ _ _ _ c.requires.k_lt_room all _ (c.copy_first.ensures m e) (omega (arith, c.if-room-k.false, c.erase_ops.ensures.value))
