-- `chip_pages::erase_at`: the lent part is the block.
-- Assumes nothing.
use mathlib.Core.Path.{◌≡◌}
use lib.ListN.{length}
use Rattle.lists.specs.Parts.{part}
use Rattle.lists.proofs.Parts.{part_length}
use Rattle.loops.proofs.Lent.{back, width}
use Rattle.chip_pages.proofs.erase_at.Goals as goal

pub returns : goal.returns
unfolding part
returns c =
    let n : length (part c.args.w c.args.n.0 c.args.chip.now) ≡ c.args.w = part_length _ _ _ c.requires in
    rw (width, c.blank.ensures, width) (rw n (back c.args.w c.args.n.0 _ c.args.chip.now))
