-- `check_sound::is_sound`: a number that is too high, or the block's rule.
-- Assumes nothing.
use Rattle.rules.proofs.Sizes.{sizes}
use Rattle.check_sound.proofs.Sounds.{high_cluster, high_vblock, sound_is}
use Rattle.check_sound.proofs.is_sound.Goals as goal

pub frame_of-fr-requires : goal.frame_of-fr-requires
frame_of-fr-requires c =
    record {
      p_value = c.requires.p_value;
      blk_len = c.requires.blk_len;
      f_bound = (sizes _ c.requires.p_value).some;
    }

pub returns-then-v-p : goal.returns-then-v-p
returns-then-v-p c = high_vblock _ (sizes _ c.requires.p_value) _ _ c.frame_of-fr.ensures.result_value _ c.vblock_in-v.ensures c.if-v-p.true

pub returns-then-c-p : goal.returns-then-c-p
returns-then-c-p c = high_cluster _ (sizes _ c.requires.p_value) _ _ c.frame_of-fr.ensures.result_value _ c.cluster_in-c.ensures.result_value c.if-c-p.true

pub returns : goal.returns
returns c =
    sound_is _ (sizes _ c.requires.p_value) _ _ c.frame_of-fr.ensures.result_value _ _ _ c.vblock_in-v.ensures
    c.cluster_in-c.ensures.result_value c.region_of.ensures c.if-v-p.false _ c.block_ok.ensures
