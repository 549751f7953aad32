-- `write_reclaim::move_frame`: the cluster is read before the copy; the copy stands before CT names it.
-- Assumes nothing.
use mathlib.Core.Path.{◌∙◌}
use native.Mathlib.Omega.{arith}
use Rattle.write_reclaim.proofs.Places.{frame_few, segment_few}
use Rattle.write_reclaim.proofs.move_frame.Goals as goal

pub copy_part-requires : goal.copy_part-requires
copy_part-requires c =
    record {
      copy_asked = c.requires.copy;
      m_le_alpha = omega arith;
    }

pub segment_of-requires : goal.segment_of-requires
segment_of-requires c =
    let a = c.requires in
    record {
      p_value = a.copy.to.whole.fine;
      v_lt_gamma = a.low;
      f_bound = frame_few _ _ _ _ a.copy.to;
    }

pub set_ct-requires : goal.set_ct-requires
set_ct-requires c =
    let a = c.requires in
    record {
      c_in_bounds = rw c.cluster_at-c.ensures a.cluster;
      sg_bound = segment_few _ _ _ _ a.copy.to _ _ a.low c.segment_of.ensures;
    }

pub returns : goal.returns
returns c = record { chip_is = c.copy_part.ensures; ct_is = c.set_ct.ensures ∙ rw (c.cluster_at-c.ensures, c.segment_of.ensures) }
