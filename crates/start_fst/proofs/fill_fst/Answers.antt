-- `start_fst::fill_fst`: after r turns the first r entries are made.
-- Assumes nothing.
use mathlib.Core.Path.{◌∙◌}
use native.Mathlib.Omega.{arith}
use Rattle.loops.proofs.Tables.{as_lent, made_all, made_next}
use Rattle.start_fst.proofs.fill_fst.Goals as goal

pub loop-r-init : goal.loop-r-init
loop-r-init c = as_lent _ _ _ c.requires.fst_len

pub loop-r-preserved : goal.loop-r-preserved
loop-r-preserved c = c.set_fst.ensures ∙ made_next _ _ _ _ _ _ c.loop-r-test.true c.loop-r.invariant c.segment_of.ensures.result_value

pub returns : goal.returns
returns c = c.loop-r.invariant ∙ made_all _ _ _ _ (omega arith)
