-- `start_work::start_all`: the blocks, then the tables on the chip as left.
-- Assumes nothing.
use Rattle.start_work.proofs.Left.{board_is, long, start_asked, tables_asked}
use Rattle.start_work.proofs.start_all.Goals as goal

pub find_blocks-k-requires : goal.find_blocks-k-requires
find_blocks-k-requires c =
    let a = c.requires in
    record {
      start_asked = start_asked _ _ a;
      bst_len = (long _ _ a).bst_length;
      wear_len = (long _ _ a).wear_length;
    }

pub fill_tables-requires : goal.fill_tables-requires
fill_tables-requires c = tables_asked _ _ c.requires _ _ _ _ c.find_blocks-k.ensures.kept

pub returns : goal.returns
returns c =
    let kept = c.find_blocks-k.ensures.kept in
    record {
      stamps_after = board_is _ _ c.requires _ _ _ _ kept _ _ _ _ _ c.find_blocks-k.ensures.bst_after c.fill_tables.ensures;
      value = kept.count;
      upper_bound = kept.few;
    }
