-- `start_blocks::list_kinds`: after n turns the first n entries are made.
-- Assumes nothing.
use mathlib.Core.Path.{refl, ◌∙◌}
use native.Mathlib.Omega.{arith}
use lib.ListN.{length-set}
use Rattle.loops.proofs.Tables.{as_lent, made_all, made_next}
use Rattle.start_blocks.proofs.Left.{kind_left, left_asked}
use Rattle.start_blocks.proofs.list_kinds.Goals as goal

pub loop-n-init : goal.loop-n-init
loop-n-init c = (refl, as_lent _ _ _ c.requires.bst_len)

pub left_kind-requires : goal.left_kind-requires
left_kind-requires c = left_asked _ _ _ c.requires.start_asked c.requires.bt_value _ c.loop-n-test.true

pub loop-n-preserved : goal.loop-n-preserved
loop-n-preserved c =
    let low = c.loop-n-test.true in
    let asked = c.requires in
    (simp length-set c.loop-n.invariant.0, made_next _ _ _ _ _ _ low c.loop-n.invariant.1 (kind_left _ _ _ asked.start_asked asked.bt_value _ low _ c.left_kind.ensures))

pub returns : goal.returns
returns c = c.loop-n.invariant.1 ∙ made_all _ _ _ _ (omega arith)
