-- `start_found::frame_at`: by quotient and remainder, the frame of the block that BT names.
-- Assumes nothing.
use native.Mathlib.Omega.{arith}
use Rattle.start_found.proofs.Views.{block_low_lem, divisor, frame_is, place_is_low, vblock_is_low}
use Rattle.start_found.proofs.frame_at.Goals as goal

pub nonzero_div-i : goal.nonzero_div-i
nonzero_div-i c = omega (arith, divisor _ c.requires.found.fine _ _ c.requires.has_frame.low c.frames-f.ensures)

pub bt_at-n-requires : goal.bt_at-n-requires
bt_at-n-requires c =
    record {
      bt_len = c.requires.found.bt_length;
      r_lt_mu = c.requires.has_frame.region;
      v_lt_gamma = vblock_is_low _ c.requires.found.fine _ _ c.requires.has_frame.low c.frames-f.ensures;
    }

pub block_of-requires : goal.block_of-requires
block_of-requires c =
    record {
      p_value = c.requires.found.fine;
      chip_len = c.requires.found.chip_length;
      n_lt_n = block_low_lem _ _ _ c.requires.found _ _ c.requires.has_frame _ _ c.frames-f.ensures c.bt_at-n.ensures.result_value;
    }

pub nonzero_rem-i : goal.nonzero_rem-i
nonzero_rem-i c = omega (arith, divisor _ c.requires.found.fine _ _ c.requires.has_frame.low c.frames-f.ensures)

pub frame_of-requires : goal.frame_of-requires
frame_of-requires c =
    record {
      p_value = c.requires.found.fine;
      blk_len = c.block_of.ensures.result_len;
      f_bound = place_is_low _ c.requires.found.fine _ _ c.requires.has_frame.low c.frames-f.ensures;
    }

pub returns : goal.returns
returns c =
    record {
      result_value = frame_is _ _ _ c.requires.found _ _ c.requires.has_frame _ _ c.frames-f.ensures c.bt_at-n.ensures.result_value _ _ c.block_of.ensures.result_value c.frame_of.ensures.result_value;
      result_len = c.frame_of.ensures.result_len;
    }
