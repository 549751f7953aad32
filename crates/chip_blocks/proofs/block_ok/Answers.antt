-- `chip_blocks::block_ok`: a used block has a programmed frame.
-- Assumes nothing.
use Rattle.rules.proofs.Sizes.{sizes}
use Rattle.chip_blocks.proofs.Leading.{all_stamps, used_some}
use Rattle.chip_blocks.proofs.block_ok.Goals as goal

pub returns : goal.returns
returns c = rw (c.used_frames.ensures, all_stamps _ (sizes _ c.requires.p_value) _ _ _) (used_some _ _ _ _)
