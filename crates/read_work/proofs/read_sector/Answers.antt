-- `read_work::read_sector`: 255 throughout, or the data bytes of the page.
-- Assumes nothing.
use mathlib.Core.Path.{ap, refl, sym, ◌∙◌}
use native.Mathlib.Omega.{arith}
use lib.ListN.{length}
use Rattle.chip_pages.proofs.Places.{put_whole}
use Rattle.read_work.proofs.Runs.{blank_is, number_low, page_end, page_wide, sector_is, sector_length}
use Rattle.read_work.proofs.read_sector.Goals as goal

pub returns-in_default : goal.returns-in_default
returns-in_default c = rw c.in_default.is (c.blank.ensures ∙ blank_is _ _ _ _ _ _ refl c.requires.size)

pub overflow_mul-a : goal.overflow_mul-a
overflow_mul-a c = omega (arith, number_low _ _ _ _ _ (rw c.in-Some.is at c.requires.source) c.requires.low refl _ c.page_bytes-w.ensures)

pub overflow_add-a : goal.overflow_add-a
overflow_add-a c = omega (arith, number_low _ _ _ _ _ (rw c.in-Some.is at c.requires.source) c.requires.low refl _ c.page_bytes-w.ensures)

pub overflow_mul-a-2 : goal.overflow_mul-a-2
overflow_mul-a-2 c = omega (arith, page_end _ _ _ _ _ (rw c.in-Some.is at c.requires.source) c.requires.low refl _ c.page_bytes-w.ensures)

pub overflow_add-b : goal.overflow_add-b
overflow_add-b c =
    omega (
      arith,
      page_end _ _ _ _ _ (rw c.in-Some.is at c.requires.source) c.requires.low refl _ c.page_bytes-w.ensures,
      page_wide _ _ _ _ _
          (rw c.in-Some.is at c.requires.source) c.requires.low refl _ c.page_bytes-w.ensures,
    )

pub slice_bounds-put-end : goal.slice_bounds-put-end
slice_bounds-put-end c =
    omega (
      arith,
      page_end _ _ _ _ _ (rw c.in-Some.is at c.requires.source) c.requires.low refl _ c.page_bytes-w.ensures,
      page_wide _ _ _ _ _
          (rw c.in-Some.is at c.requires.source) c.requires.low refl _ c.page_bytes-w.ensures,
    )

pub returns : goal.returns
returns c =
    let source = rw c.in-Some.is at c.requires.source in
    let is = sector_is _ _ _ _ _ source c.requires.low refl _ c.page_bytes-w.ensures in
    rw c.in-Some.is (c.put.ensures ∙ put_whole _ _ (c.requires.size ∙ sym (ap length is ∙ sector_length _ _ _ _ _ source c.requires.low)) ∙ is)
