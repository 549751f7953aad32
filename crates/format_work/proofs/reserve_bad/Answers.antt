-- `format_work::reserve_bad`: after n turns the first n entries are made.
-- Assumes nothing.
use mathlib.Core.Path.{◌∙◌}
use native.Mathlib.Omega.{arith}
use Rattle.loops.proofs.Tables.{as_lent, made_all, made_next}
use Rattle.format_work.proofs.reserve_bad.Goals as goal

pub loop-n-init : goal.loop-n-init
loop-n-init c = as_lent _ _ _ c.requires.bst_len

pub loop-n-preserved : goal.loop-n-preserved
loop-n-preserved c = made_next _ _ _ _ _ _ c.loop-n-test.true c.loop-n.invariant c.kind_of.ensures

pub returns : goal.returns
returns c = c.loop-n.invariant ∙ made_all _ _ _ _ (omega arith)
