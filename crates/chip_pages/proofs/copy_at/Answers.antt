-- `chip_pages::copy_at`: what is held is the page `from`; it is put into the page `to`.
-- Assumes nothing.
use mathlib.Core.Path.{ap, sym, ◌∙◌, ◌≡◌}
use Prim.Native.Nat.{ℕ}
use lib.ListN.{length, replicate, take}
use Rattle.lists.specs.Parts.{part}
use Rattle.lists.proofs.Parts.{part_length}
use Rattle.loops.proofs.Lent.{back, width}
use Rattle.chip_pages.proofs.Places.{held_part, put_held}
use Rattle.chip_pages.proofs.copy_at.Goals as goal
use Rattle.chip_pages.proofs.copy_at.Goals.{After-put}

module _ (c : After-put) where
  page-held : take c.args.w c.put.new.part ≡ part c.args.w c.args.from c.args.chip.now
  page-held = held_part _ _ _ _ c.requires.source (put_held _ _ _ c.put.ensures)

pub slice_bounds-program_copy-end-2 : goal.slice_bounds-program_copy-end-2
slice_bounds-program_copy-end-2 c = sym (ap length (page-held (goal.at.slice_bounds-program_copy-end-2 c).After-put) ∙ part_length _ _ _ c.requires.source)

pub program_copy-requires : goal.program_copy-requires
unfolding part
program_copy-requires c = rw width (c.requires.page.clean ∙ ap (λ (n : ℕ). replicate n 255) (sym (ap length (page-held (goal.at.program_copy-requires c).After-put) ∙ part_length _ _ _ c.requires.source)))

pub returns : goal.returns
returns c = rw (width, c.program_copy.ensures, page-held (goal.at.returns c).After-put) (back _ _ _ _)
