-- `start_blocks::find_blocks`: the passes one after the other.
-- Assumes nothing.
use mathlib.Core.Path.{sym, ap, ◌∙◌}
use lib.ListN.{length, length-replicate}
use Rattle.start_blocks.proofs.Blocks.{kinds_are, still_asked, swept_length, use_asked}
use Rattle.start_blocks.proofs.Fulls.{fulls_length, fulls_none}
use Rattle.start_blocks.proofs.find_blocks.Goals as goal

pub name_fulls-requires : goal.name_fulls-requires
name_fulls-requires c =
    record {
      start_asked = still_asked _ _ _ c.requires.start_asked _ (ap length c.clear.ensures ∙ length-replicate _ _);
      bt_value = fulls_none _ _ _ c.requires.start_asked _ c.clear.ensures;
    }

pub name_opens-k-requires : goal.name_opens-k-requires
name_opens-k-requires c =
    record {
      start_asked = still_asked _ _ _ c.requires.start_asked _ (ap length c.name_fulls.ensures ∙ fulls_length _ _ _ c.requires.start_asked _ ∙ sym c.requires.start_asked.bt_length);
      wear_len = c.requires.wear_len;
      bt_value = c.name_fulls.ensures;
    }

pub reserve_bad-requires : goal.reserve_bad-requires
reserve_bad-requires c =
    record {
      p_value = c.requires.start_asked.fine;
      chip_len = swept_length _ _ _ c.requires.start_asked _ _ c.name_opens-k.ensures.chip_is;
      bst_len = c.requires.bst_len;
    }

pub use_named-requires : goal.use_named-requires
use_named-requires c =
    let kept = c.name_opens-k.ensures in
    let both = use_asked _ _ _ c.requires.start_asked _ _ kept.chip_is _ _ kept.bt_is c.reserve_bad.ensures in
    record { bst_len_bound = both.0; by_index = both.1 }

pub returns : goal.returns
returns c =
    let kept = c.name_opens-k.ensures in
    record {
      kept = kept;
      bst_after = kinds_are _ _ _ c.requires.start_asked _ _ kept.chip_is _ _ kept.bt_is c.reserve_bad.ensures _ c.use_named.ensures;
    }
