-- `start_fst::open_vblock`: the open one, or else the lowest.
-- Assumes nothing.
use native.Mathlib.Omega.{arith}
use Rattle.rules.proofs.Sizes.{sizes}
use Rattle.start_fst.proofs.Open.{open_else, open_first}
use Rattle.start_fst.proofs.open_vblock.Goals as goal

pub first_named-requires : goal.first_named-requires
first_named-requires c =
    record {
      bt_len = c.requires.found.bt_length;
      gamma_bound = omega (arith, (sizes _ c.requires.found.fine).gamma_high);
      r_lt_mu = c.requires.r_lt_mu;
    }

pub returns-in_default : goal.returns-in_default
returns-in_default c = rw (open_else _ _ _ c.requires.found _ c.requires.r_lt_mu c.in_default.ensures) at c.first_named.ensures

pub returns : goal.returns
returns c = open_first _ _ _ c.requires.found _ c.requires.r_lt_mu _ c.in-Some.ensures
