-- `cut_erases::erase_listed`: by what is left and what BST has, and then by the wear.
-- Assumes nothing.
use mathlib.Core.Path.{sym, ◌∙◌}
use native.Mathlib.Omega.{arith}
use Rattle.cut_erases.proofs.First.{all_made, long_fresh, long_worn, none_left, not_listed, only_erased, two_left}
use Rattle.cut_erases.proofs.erase_listed.Goals as goal

pub returns-then-left-eq0 : goal.returns-then-left-eq0
returns-then-left-eq0 c = none_left _ _ _ _ _ _ (omega (arith, c.if-left-eq0.true))

pub returns-then-bst_at-ne-FREE : goal.returns-then-bst_at-ne-FREE
returns-then-bst_at-ne-FREE c = not_listed _ _ _ _ _ c.bst_at.ensures _ _ c.if-bst_at-ne-FREE.true

pub returns-then-left-eq1 : goal.returns-then-left-eq1
returns-then-left-eq1 c = only_erased _ _ _ _ _ c.bst_at.ensures _ _ c.if-bst_at-ne-FREE.false (omega (arith, c.if-left-eq1.true)) _ _ c.clear_block.ensures.chip_after c.clear_block.ensures.wear_after

pub returns-then-erase_block : goal.returns-then-erase_block
returns-then-erase_block c =
    let worn = two_left _ c.if-left-eq0.false c.if-left-eq1.false in
    all_made _ _ _ _ _ c.bst_at.ensures _ _ c.if-bst_at-ne-FREE.false worn _ _ c.erase_block.ensures.chip_after c.erase_block.ensures.wear_after _
    (long_worn _ _ _ _ _ c.bst_at.ensures c.if-bst_at-ne-FREE.false (sym c.erase_block.ensures.value ∙ c.if-erase_block.true))

pub returns : goal.returns
returns c =
    let fresh = two_left _ c.if-left-eq0.false c.if-left-eq1.false in
    all_made _ _ _ _ _ c.bst_at.ensures _ _ c.if-bst_at-ne-FREE.false fresh _ _ c.erase_block.ensures.chip_after c.erase_block.ensures.wear_after _
    (long_fresh _ _ _ _ _ c.bst_at.ensures c.if-bst_at-ne-FREE.false (sym c.erase_block.ensures.value ∙ c.if-erase_block.false))
