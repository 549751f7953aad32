-- `write_room::open_block`: BT names the block, and BST has it as used.
-- Assumes nothing.
use Rattle.write_room.proofs.Rooms.{free_few, free_in}
use Rattle.write_room.proofs.open_block.Goals as goal

pub set_bt-requires : goal.set_bt-requires
set_bt-requires c =
    record {
      bt_len = c.requires.bt_length;
      r_lt_mu = c.requires.region;
      v_lt_gamma = c.requires.low;
      n_bound = free_few _ _ _ _ _ _ c.requires;
    }

pub set_bst-requires : goal.set_bst-requires
set_bst-requires c = free_in _ _ _ _ _ _ c.requires

pub returns : goal.returns
returns c = record { bt_is = c.set_bt.ensures; bst_is = c.set_bst.ensures }
