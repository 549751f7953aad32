-- `write_cluster::put_cluster`: all pages of the new frame are programmed from the old one where it now stands, and then CT and FST name its segment.
-- Assumes nothing.
use native.Mathlib.Omega.{arith}
use Rattle.rules.proofs.Sizes.{sizes}
use Rattle.write_cluster.proofs.Put.{pages_asked, ct_in, fst_in, frame_few, segment_few, cluster_put}
use Rattle.write_cluster.proofs.put_cluster.Goals as goal

pub cluster_of-c-requires : goal.cluster_of-c-requires
cluster_of-c-requires c = (sizes _ c.requires.standing.fine).sectors

pub region_of-r-requires : goal.region_of-r-requires
region_of-r-requires c =
    record {
      p_value = c.requires.standing.fine;
      c_lt_c = rw c.cluster_of-c.ensures c.requires.standing.asked.cluster;
    }

pub put_pages-requires : goal.put_pages-requires
put_pages-requires c =
    record {
      c_value = c.cluster_of-c.ensures;
      r_value = c.region_of-r.ensures;
      pages_asked = pages_asked _ _ _ _ _ c.requires.standing _ _ c.requires.stands;
      m_le_alpha = omega arith;
    }

pub segment_of-sg-requires : goal.segment_of-sg-requires
segment_of-sg-requires c =
    record {
      p_value = c.requires.standing.fine;
      v_lt_gamma = c.requires.standing.base.ready.mine;
      f_bound = frame_few _ _ _ _ _ c.requires.standing;
    }

pub set_ct-requires : goal.set_ct-requires
set_ct-requires c =
    record {
      c_in_bounds = ct_in _ _ _ _ _ c.requires.standing _ c.cluster_of-c.ensures;
      sg_bound = segment_few _ _ _ _ _ c.requires.standing _ c.segment_of-sg.ensures;
    }

pub set_fst-requires : goal.set_fst-requires
set_fst-requires c =
    record {
      r_in_bounds = fst_in _ _ _ _ _ c.requires.standing _ c.cluster_of-c.ensures _ c.region_of-r.ensures;
      sg_bound = segment_few _ _ _ _ _ c.requires.standing _ c.segment_of-sg.ensures;
    }

pub returns : goal.returns
returns c =
    cluster_put _ _ _ _ _ c.requires.standing _ c.cluster_of-c.ensures _ c.region_of-r.ensures _ _ c.requires.stands _ _ _ _ _ c.put_pages.ensures
    c.segment_of-sg.ensures c.set_ct.ensures c.set_fst.ensures
