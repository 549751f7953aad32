-- `check_start::region_starts`: the blocks that are kept, then their stamps.
-- Assumes nothing.
use borrow.Author.Tests.{not-false, not-true}
use Rattle.rules.specs.Start.{found_bt}
use Rattle.rules.proofs.Sizes.{sizes}
use Rattle.check_start.proofs.Regions.{region_is_lem, region_not, row_asked, row_found}
use Rattle.check_start.proofs.region_starts.Goals as goal

pub returns-then-not-kept_blocks : goal.returns-then-not-kept_blocks
returns-then-not-kept_blocks c = region_not _ (sizes _ c.requires.asked.fine) _ _ c.requires.r_lt_mu _ _ c.kept_blocks.ensures (not-true _ c.if-not-kept_blocks.true-raw)

pub stamps_apart-requires : goal.stamps_apart-requires
stamps_apart-requires c = row_asked _ (sizes _ c.requires.asked.fine) _ _ c.requires.r_lt_mu _ _ c.requires.asked c.kept_blocks.ensures (not-false _ c.if-not-kept_blocks.false-raw)

pub returns : goal.returns
returns c =
    let z = sizes _ c.requires.asked.fine in
    let kept = c.kept_blocks.ensures in
    let ok = not-false _ c.if-not-kept_blocks.false-raw in
    region_is_lem _ z _ _ c.requires.r_lt_mu _ _ kept ok _ (c.stamps_apart.ensures (found_bt c.args.p c.args.chip.now) c.args.r (row_found _ z _ _ c.requires.r_lt_mu _ _ kept ok))
