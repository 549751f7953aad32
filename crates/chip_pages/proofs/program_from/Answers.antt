-- `chip_pages::program_from`: what is held is the data bytes of the page `from`; they are programmed into the page `to`.
-- Assumes nothing.
use mathlib.Core.Path.{◌≡◌, sym}
use Prim.Native.Nat.{◌+◌}
use lib.ListN.{length, take}
use Rattle.lists.specs.Parts.{part}
use Rattle.chip_pages.proofs.Places.{held_data, held_length, put_held}
use Rattle.chip_pages.proofs.program_from.Goals as goal
use Rattle.chip_pages.proofs.program_from.Goals.{After-put}

module _ (c : After-put) where
  data-held : take c.args.s c.put.new.part ≡ take c.args.s (part (c.args.s + 16) c.args.from c.args.chip.now)
  data-held = held_data _ _ _ _ c.requires.source (put_held _ _ _ c.put.ensures)

  data-long : length (take c.args.s c.put.new.part) ≡ c.args.s
  data-long = held_length _ _ _ _ c.requires.source (put_held _ _ _ c.put.ensures)

pub slice_bounds-program_at-end : goal.slice_bounds-program_at-end
slice_bounds-program_at-end c = sym (data-long (goal.at.slice_bounds-program_at-end c).After-put)

pub program_at-requires : goal.program_at-requires
program_at-requires c = rw (data-long (goal.at.program_at-requires c).After-put) c.requires.page

pub returns : goal.returns
returns c = rw (data-long (goal.at.returns c).After-put, data-held (goal.at.returns c).After-put) at c.program_at.ensures
