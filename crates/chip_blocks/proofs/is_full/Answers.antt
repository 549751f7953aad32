-- `chip_blocks::is_full`: the frame before F.
-- Assumes nothing.
use native.Mathlib.Omega.{arith}
use Rattle.rules.proofs.Sizes.{sizes}
use Rattle.chip_blocks.proofs.is_full.Goals as goal

pub overflow_sub-f : goal.overflow_sub-f
overflow_sub-f c = let z = sizes _ c.requires.p_value in omega (arith, z.some, c.frames-f.ensures)

pub frame_of-requires : goal.frame_of-requires
frame_of-requires c =
    let z = sizes _ c.requires.p_value in
    record {
      p_value = c.requires.p_value;
      blk_len = c.requires.blk_len;
      f_bound = omega (arith, z.some, c.frames-f.ensures);
    }

pub returns : goal.returns
returns c = rw (← c.frames-f.ensures, ← c.frame_of.ensures.result_value) c.is_programmed.ensures
