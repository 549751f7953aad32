-- `start_blocks::name_full`: by what the block's head says.
-- Assumes nothing.
use Rattle.start_blocks.proofs.Heads.{full_not, full_put, full_unused, number_low}
use Rattle.start_blocks.proofs.name_full.Goals as goal

pub returns-in_default : goal.returns-in_default
returns-in_default c = full_unused _ _ _ _ c.requires c.in_default.ensures

pub set_bt-requires : goal.set_bt-requires
set_bt-requires c =
    let names = c.in-Some.ensures.1 in
    record {
      bt_len = c.requires.bt_length;
      r_lt_mu = names.region_low;
      v_lt_gamma = names.vblock_low;
      n_bound = number_low _ _ _ _ c.requires;
    }

pub returns-then-h : goal.returns-then-h
returns-then-h c = full_put _ _ _ _ _ c.in-Some.ensures c.if-h.true _ c.set_bt.ensures

pub returns-else-h : goal.returns-else-h
returns-else-h c = full_not _ _ _ _ _ c.in-Some.ensures c.if-h.false
