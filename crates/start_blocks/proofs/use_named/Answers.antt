-- `start_blocks::use_named`: after i turns the blocks that the first i entries name are used.
-- Assumes nothing.
use mathlib.Core.Path.{refl, ◌∙◌}
use native.Mathlib.Omega.{arith}
use borrow.Author.Rules.{rules}
use Rattle.start_blocks.proofs.Used.{used_all, used_none, used_turn}
use Rattle.start_blocks.proofs.use_named.Goals as goal

pub loop-i-init : goal.loop-i-init
loop-i-init c = (refl, λ bad right e. e ∙ used_none _ _ bad)

pub loop-i-preserved : goal.loop-i-preserved
loop-i-preserved c =
    let low = c.loop-i-test.true in (
      search rules,
      λ bad right e. used_turn _ _ bad _ c.requires.bst_len_bound (λ ne. (c.requires.by_index _ low ne, right _ low ne)) _ _ (c.loop-i.invariant.1 bad right e) c.set_used.ensures,
    )

pub returns : goal.returns
returns c = λ bad right e. c.loop-i.invariant.1 bad right e ∙ used_all _ _ bad _ (omega arith)
