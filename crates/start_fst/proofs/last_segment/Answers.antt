-- `start_fst::last_segment`: the block has a programmed frame, and its last one is in that segment.
-- Assumes nothing.
use mathlib.Core.Path.{sym, ◌∙◌}
use native.Mathlib.Omega.{arith}
use Rattle.start_fst.proofs.Open.{block_low_lem, segment_low, some_filled}
use Rattle.start_fst.proofs.last_segment.Goals as goal

pub block_of-requires : goal.block_of-requires
block_of-requires c =
    record {
      p_value = c.requires.found.fine;
      chip_len = c.requires.found.chip_length;
      n_lt_n = block_low_lem _ _ _ c.requires.found _ c.requires.r_lt_mu _ c.requires.v_lt_gamma _ c.bt_at-n.ensures.result_value (λ e. c.requires.fact (sym c.bt_at-n.ensures.result_value ∙ e));
    }

pub overflow_sub-k : goal.overflow_sub-k
overflow_sub-k c =
    let w =
    some_filled _ _ _ c.requires.found _ c.requires.r_lt_mu _ c.requires.v_lt_gamma _ c.bt_at-n.ensures.result_value (λ e. c.requires.fact (sym c.bt_at-n.ensures.result_value ∙ e))
    _ _ c.block_of.ensures.result_value c.filled-k.ensures in
    omega (arith, w.0)

pub segment_of-requires : goal.segment_of-requires
segment_of-requires c =
    let w =
    some_filled _ _ _ c.requires.found _ c.requires.r_lt_mu _ c.requires.v_lt_gamma _ c.bt_at-n.ensures.result_value (λ e. c.requires.fact (sym c.bt_at-n.ensures.result_value ∙ e))
    _ _ c.block_of.ensures.result_value c.filled-k.ensures in
    record {
      p_value = c.requires.found.fine;
      v_lt_gamma = c.requires.v_lt_gamma;
      f_bound = omega (arith, w.0, w.1);
    }

pub returns : goal.returns
returns c =
    record {
      result_value = c.segment_of.ensures ∙ rw (c.filled-k.ensures, c.block_of.ensures.result_value, c.bt_at-n.ensures.result_value);
      result_bound =
          segment_low _ _ _ c.requires.found _ c.requires.r_lt_mu _ c.requires.v_lt_gamma _ c.bt_at-n.ensures.result_value (λ e. c.requires.fact (sym c.bt_at-n.ensures.result_value ∙ e))
          _ _ _ c.block_of.ensures.result_value c.filled-k.ensures c.segment_of.ensures;
    }
