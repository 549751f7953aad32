-- `cut_erases::ops_of`: by what BST has, then by the wear.
-- Assumes nothing.
use mathlib.Core.Path.{sym, ◌∙◌}
use Rattle.cut_erases.proofs.First.{long_fresh, long_none, long_worn}
use Rattle.cut_erases.proofs.ops_of.Goals as goal

pub returns-then-bst_at-ne-FREE : goal.returns-then-bst_at-ne-FREE
returns-then-bst_at-ne-FREE c = long_none _ _ _ _ _ c.bst_at.ensures c.if-bst_at-ne-FREE.true

pub returns-then-wears_out : goal.returns-then-wears_out
returns-then-wears_out c = long_worn _ _ _ _ _ c.bst_at.ensures c.if-bst_at-ne-FREE.false (sym c.wears_out.ensures ∙ c.if-wears_out.true)

pub returns : goal.returns
returns c = long_fresh _ _ _ _ _ c.bst_at.ensures c.if-bst_at-ne-FREE.false (sym c.wears_out.ensures ∙ c.if-wears_out.false)
