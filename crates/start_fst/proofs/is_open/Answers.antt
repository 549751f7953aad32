-- `start_fst::is_open`: no block is not open; of a used block the last frame tells.
-- Assumes nothing.
use mathlib.Core.Path.{refl}
use native.Mathlib.Omega.{arith}
use Rattle.start_fst.proofs.Open.{block_low_lem, not_open, open_is}
use Rattle.start_fst.proofs.is_open.Goals as goal

pub returns-in_default : goal.returns-in_default
returns-in_default c = not_open _ _ _ c.requires.found _ c.requires.r_lt_mu _ c.requires.v_lt_gamma _ refl c.in_default.ensures

pub block_of-requires-clause-n_lt_n : goal.block_of-requires-clause-n_lt_n
block_of-requires-clause-n_lt_n c =
    let named = c.in-Some.ensures in
    block_low_lem _ _ _ c.requires.found _ c.requires.r_lt_mu _ c.requires.v_lt_gamma _ named.0 (λ e. omega (arith, named.1, e))

pub returns : goal.returns
returns c =
    let named = c.in-Some.ensures in
    open_is _ _ _ c.requires.found _ c.requires.r_lt_mu _ c.requires.v_lt_gamma _ named.0 (λ e. omega (arith, named.1, e)) _ _ c.block_of.ensures.result_value
    c.is_full.ensures
