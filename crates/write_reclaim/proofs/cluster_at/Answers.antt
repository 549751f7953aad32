-- `write_reclaim::cluster_at`: the block's frame, and the cluster in it.
-- Assumes nothing.
use mathlib.Core.Path.{◌∙◌}
use Rattle.write_reclaim.proofs.Places.{chip_length_lem}
use Rattle.write_reclaim.proofs.cluster_at.Goals as goal

pub block_of-requires : goal.block_of-requires
block_of-requires c =
    let a = c.requires in
    record {
      p_value = a.whole.fine;
      chip_len = chip_length_lem _ _ a.whole;
      n_lt_n = a.block;
    }

pub returns : goal.returns
returns c = c.cluster_in.ensures.result_value ∙ rw (c.frame_of.ensures.result_value, c.block_of.ensures.result_value)
