-- `start_blocks::list_left`: the passes one after the other.
-- Assumes nothing.
use mathlib.Core.Path.{sym, ap, ◌∙◌}
use lib.ListN.{length, length-replicate}
use Rattle.start_blocks.proofs.Blocks.{still_asked}
use Rattle.start_blocks.proofs.Fulls.{fulls_length, fulls_none}
use Rattle.start_blocks.proofs.list_left.Goals as goal

pub name_fulls-requires : goal.name_fulls-requires
name_fulls-requires c =
    let a = c.requires.start_asked in
    record {
      start_asked = still_asked _ _ _ a _ (ap length c.clear.ensures ∙ length-replicate _ _);
      bt_value = fulls_none _ _ _ a _ c.clear.ensures;
    }

pub list_kinds-requires : goal.list_kinds-requires
list_kinds-requires c =
    let a = c.requires.start_asked in
    record {
      start_asked = still_asked _ _ _ a _ (ap length c.name_fulls.ensures ∙ fulls_length _ _ _ a _ ∙ sym a.bt_length);
      bt_value = c.name_fulls.ensures;
      bst_len = c.requires.bst_len;
    }
