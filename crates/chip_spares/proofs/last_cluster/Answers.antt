-- `chip_spares::last_cluster`: the first four bytes of the last spare area.
-- Assumes nothing.
use mathlib.Core.Path.{sym, ◌∙◌}
use native.Mathlib.Omega.{arith}
use Rattle.rules.proofs.Sizes.{sizes}
use Rattle.chip_spares.proofs.Spares.{last_fits, last_held}
use Rattle.chip_spares.proofs.last_cluster.Goals as goal

pub overflow_sub-a : goal.overflow_sub-a
overflow_sub-a c = last_fits c.args.p c.args.frame.now (sizes _ c.requires.p_value).sectors c.requires.frame_len

pub half-n-requires : goal.half-n-requires
half-n-requires c = omega (arith, last_fits c.args.p c.args.frame.now (sizes _ c.requires.p_value).sectors c.requires.frame_len)

pub returns : goal.returns
returns c = c.half-n.ensures.value ∙ sym (last_held c.args.p c.args.frame.now (sizes _ c.requires.p_value).sectors c.requires.frame_len)
