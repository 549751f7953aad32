-- `start_fst::segment_of`: of that virtual block, where there is one.
-- Assumes nothing.
use native.Mathlib.Omega.{arith}
use Rattle.rules.proofs.Sizes.{sizes}
use Rattle.start_fst.proofs.Open.{fst_none, fst_some, open_spec}
use Rattle.start_fst.proofs.segment_of.Goals as goal

pub returns-in_default : goal.returns-in_default
returns-in_default c =
    record {
      result_value = fst_none _ _ _ c.requires.found _ c.requires.r_lt_mu c.in_default.ensures;
      result_bound = omega arith;
    }

pub last_segment-requires : goal.last_segment-requires
last_segment-requires c =
    let first = c.in-Some.ensures in
    let w = open_spec _ _ _ c.requires.found _ c.requires.r_lt_mu _ first.0 (λ e. omega (arith, e, first.1, (sizes _ c.requires.found.fine).gamma_high)) in
    record {
      found = c.requires.found;
      r_lt_mu = c.requires.r_lt_mu;
      v_lt_gamma = w.0;
      fact = w.1;
    }

pub returns : goal.returns
returns c =
    let first = c.in-Some.ensures in
    record {
      result_value = fst_some _ _ _ c.requires.found _ c.requires.r_lt_mu _ first.0 (λ e. omega (arith, e, first.1, (sizes _ c.requires.found.fine).gamma_high)) _ c.last_segment.ensures.result_value;
      result_bound = c.last_segment.ensures.result_bound;
    }
