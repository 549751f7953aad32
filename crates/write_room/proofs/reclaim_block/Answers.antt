-- `write_room::reclaim_block`: the frames go to the block that is given, and BT and BST follow.
-- Assumes nothing.
use mathlib.Core.Path.{◌∙◌}
use lib.ListN.{length-set}
use Rattle.rules.specs.Traces.{erased_state}
use Rattle.write_room.proofs.Rooms.{free_few, free_in, reclaim_asked, old_in, old_worn, block_reclaimed}
use Rattle.write_room.proofs.reclaim_block.Goals as goal

pub bt_at-o-requires : goal.bt_at-o-requires
bt_at-o-requires c =
    record {
      bt_len = c.requires.taking.bt_length;
      r_lt_mu = c.requires.taking.region;
      v_lt_gamma = c.requires.taking.low;
    }

pub wears_out-requires : goal.wears_out-requires
wears_out-requires c = old_worn _ _ _ _ _ _ _ _ _ _ c.requires _ c.bt_at-o.ensures.result_value

pub reclaim-k-requires : goal.reclaim-k-requires
reclaim-k-requires c = reclaim_asked _ _ _ _ _ _ _ _ _ _ c.requires _ c.bt_at-o.ensures.result_value

pub set_bt-requires : goal.set_bt-requires
set_bt-requires c =
    record {
      bt_len = c.requires.taking.bt_length;
      r_lt_mu = c.requires.taking.region;
      v_lt_gamma = c.requires.taking.low;
      n_bound = free_few _ _ _ _ _ _ c.requires.taking;
    }

pub set_bst-requires : goal.set_bst-requires
set_bst-requires c = free_in _ _ _ _ _ _ c.requires.taking

pub set_bst-requires-2 : goal.set_bst-requires-2
set_bst-requires-2 c = rw (c.set_bst.ensures, length-set) (old_in _ _ _ _ _ _ _ _ _ _ c.requires _ c.bt_at-o.ensures.result_value)

pub returns : goal.returns
unfolding erased_state
returns c =
    λ m e. block_reclaimed _ _ _ _ _ _ _ _ _ _ c.requires _ c.bt_at-o.ensures.result_value (m _ _) _ _ _ _ _ _ _ _ (c.state_after-left.ensures ∙ rw c.wears_out.ensures)
    (c.reclaim-k.ensures m e) c.set_bt.ensures c.set_bst.ensures c.set_bst-2.ensures
