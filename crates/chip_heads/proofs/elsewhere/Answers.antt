-- `chip_heads::elsewhere`: the region of the cluster that the first frame names is not r.
-- Assumes nothing.
use mathlib.Core.Path.{ap, ◌∙◌}
use native.Mathlib.Nat.{mod-lt}
use native.Mathlib.Omega.{arith}
use borrow.Author.Tests.{eqb-false, not-true}
use Rattle.rules.specs.Pages.{frame, held}
use Rattle.rules.specs.Start.{region_named}
use Rattle.rules.proofs.Sizes.{sizes}
use Rattle.chip_heads.proofs.elsewhere.Goals as goal

pub frame_of-fr-requires : goal.frame_of-fr-requires
frame_of-fr-requires c =
    record {
      p_value = c.requires.p_value;
      blk_len = c.block_of.ensures.result_len;
      f_bound = (sizes _ c.requires.p_value).some;
    }

pub overflow_cast-result-2 : goal.overflow_cast-result-2
overflow_cast-result-2 c = let z = sizes _ c.requires.p_value in omega arith

pub nonzero_rem-result : goal.nonzero_rem-result
nonzero_rem-result c = let z = sizes _ c.requires.p_value in omega arith

pub overflow_cast-result-3 : goal.overflow_cast-result-3
overflow_cast-result-3 c = let z = sizes _ c.requires.p_value in omega (arith, mod-lt c.cluster_in-c.result.0 z.regions)

pub returns : goal.returns
unfolding region_named
returns c o =
    let p = c.args.p in
    let e = c.cluster_in-c.ensures.result_value ∙ ap (held p) (c.frame_of-fr.ensures.result_value ∙ ap (λ b. frame p b 0) c.block_of.ensures.result_value) in
    rw (← e) (eqb-false _ _ (not-true _ o))
