-- `chip_spares::cluster_in`: the first four bytes of the first spare area.
-- Assumes nothing.
use mathlib.Core.Path.{sym, ◌∙◌}
use native.Mathlib.Omega.{arith}
use Rattle.rules.proofs.Sizes.{sizes}
use Rattle.chip_spares.proofs.Spares.{first_page, held_is}
use Rattle.chip_spares.proofs.cluster_in.Goals as goal

pub half-n-requires : goal.half-n-requires
half-n-requires c = let b = sizes _ c.requires.p_value in omega (arith, first_page c.args.p b.sectors, c.requires.frame_len)

pub returns : goal.returns
returns c =
    record {
      result_value = c.half-n.ensures.value ∙ sym (held_is c.args.p c.args.frame.now);
      result_bound = c.half-n.ensures.upper_bound;
    }
