-- `write_reclaim::copy_part`: both frames by their numbers over the chip; the pages are the rules' operations.
-- Assumes nothing.
use native.Mathlib.Omega.{arith}
use Rattle.write_reclaim.proofs.Places.{page_small, copy_asked, part_copied}
use Rattle.write_reclaim.proofs.copy_part.Goals as goal

pub overflow_add-p : goal.overflow_add-p
overflow_add-p c = omega (arith, page_small _ _ _ _ _ _ c.requires.copy_asked)

pub copy_pages-requires : goal.copy_pages-requires
copy_pages-requires c =
    record {
      frame_asked = copy_asked _ _ _ _ _ _ c.requires.copy_asked _ _ c.frame_at-from.ensures c.frame_at-to.ensures;
      m_le_n = c.requires.m_le_alpha;
    }

pub returns : goal.returns
returns c = part_copied _ _ _ _ _ _ c.requires.copy_asked _ _ c.frame_at-from.ensures c.frame_at-to.ensures _ _ c.copy_pages.ensures
