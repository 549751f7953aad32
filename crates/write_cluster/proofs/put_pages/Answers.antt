-- `write_cluster::put_pages`: the frame, its label and its pages, each by the numbers that the code has.
-- Assumes nothing.
use Rattle.rules.proofs.Sizes.{sizes}
use Rattle.write_cluster.proofs.Pages.{region_at_lem, stamps_in, stamp_left, vblock_few, number_asked, host_asked, put_is}
use Rattle.write_cluster.proofs.put_pages.Goals as goal

pub bt_at-n-requires : goal.bt_at-n-requires
bt_at-n-requires c =
    let a = c.requires.pages_asked in
    record {
      bt_len = a.bt_length;
      r_lt_mu = region_at_lem _ _ _ _ _ _ _ _ _ c.requires.pages_asked _ _ c.requires.c_value c.requires.r_value;
      v_lt_gamma = a.low;
    }

pub frame_at-to-requires : goal.frame_at-to-requires
frame_at-to-requires c =
    let n = number_asked _ _ _ _ _ _ _ _ _ c.requires.pages_asked _ _ c.requires.c_value c.requires.r_value _ c.bt_at-n.ensures.result_value in
    record {
      p_value = c.requires.pages_asked.fine;
      n_lt_n = n.0;
      f_bound = n.1;
    }

pub sector_of-off-requires : goal.sector_of-off-requires
sector_of-off-requires c = (sizes _ c.requires.pages_asked.fine).sectors

pub take_stamp-requires : goal.take_stamp-requires
take_stamp-requires c =
    record {
      r_in_bounds = stamps_in _ _ _ _ _ _ _ _ _ c.requires.pages_asked _ _ c.requires.c_value c.requires.r_value;
      r_bound = stamp_left _ _ _ _ _ _ _ _ _ c.requires.pages_asked _ _ c.requires.c_value c.requires.r_value;
    }

pub overflow_cast-of : goal.overflow_cast-of
overflow_cast-of c = record { fits = vblock_few _ _ _ _ _ _ _ _ _ c.requires.pages_asked _ _ c.requires.c_value c.requires.r_value }

pub host_pages-requires : goal.host_pages-requires
host_pages-requires c =
    record {
      host_asked = rw (c.is_some-kept.ensures, c.frame_at-from.ensures)
          (host_asked _ _ _ _ _ _ _ _ _ c.requires.pages_asked _ _ c.requires.c_value c.requires.r_value _ c.bt_at-n.ensures.result_value _ _ c.frame_at-to.ensures c.sector_of-off.ensures);
      m_le_n = c.requires.m_le_alpha;
    }

pub returns : goal.returns
returns c =
    let put = rw (c.is_some-kept.ensures, c.frame_at-from.ensures) at c.host_pages.ensures in
    put_is _ _ _ _ _ _ _ _ _ c.requires.pages_asked _ _ c.requires.c_value c.requires.r_value _ c.bt_at-n.ensures.result_value _ _ c.frame_at-to.ensures c.sector_of-off.ensures _ _ _ _ put
    c.take_stamp.ensures.value c.take_stamp.ensures.stamps_after
