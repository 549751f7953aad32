-- `format_work::format_block`: one of two outcomes, by the block's mark.
-- Assumes nothing.
use mathlib.Core.Path.{sym, ◌∙◌}
use Rattle.format_work.proofs.Turns.{done_bad, done_good}
use Rattle.format_work.proofs.format_block.Goals as goal

pub returns-then-is_bad : goal.returns-then-is_bad
returns-then-is_bad c = done_bad _ _ _ _ _ c.requires (sym c.if-is_bad.true ∙ c.is_bad.ensures) _ c.set_bst.ensures

pub returns : goal.returns
returns c =
    done_good _ _ _ _ _ c.requires (sym c.if-is_bad.false ∙ c.is_bad.ensures) _ _ _ c.erase_block-out.ensures.chip_after _ c.erase_block-out.ensures.value
    _ c.state_after.ensures c.set_bst-2.ensures c.erase_block-out.ensures.wear_after
