-- `chip_heads::says`: the first frame of a sound block has a cluster below C, so that its region can be told.
-- Assumes nothing.
use mathlib.Core.Path.{ap, ◌∙◌}
use Rattle.rules.specs.Pages.{held}
use Rattle.rules.proofs.Sizes.{sizes}
use Rattle.chip_heads.proofs.Sound.{cluster_low}
use Rattle.chip_heads.proofs.Heads.{names_are}
use Rattle.chip_heads.proofs.says.Goals as goal

pub frame_of-fr-requires : goal.frame_of-fr-requires
frame_of-fr-requires c =
    record {
      p_value = c.requires.p_value;
      blk_len = c.requires.blk_len;
      f_bound = (sizes _ c.requires.p_value).some;
    }

pub region_of-requires : goal.region_of-requires
region_of-requires c =
    let e = c.cluster_in.ensures.result_value ∙ ap (held c.args.p) c.frame_of-fr.ensures.result_value in
    record {
      p_value = c.requires.p_value;
      c_lt_c = rw e (cluster_low _ (sizes _ c.requires.p_value) _ c.requires.blk_value);
    }

pub returns : goal.returns
returns c =
    names_are _ (sizes _ c.requires.p_value) _ c.requires.blk_value _ c.frame_of-fr.ensures.result_value _ c.cluster_in.ensures.result_value _ c.region_of.ensures
    c.vblock_in.ensures c.is_full.ensures
