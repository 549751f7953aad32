-- `start_clusters::fill_stamps`: after r turns the first r regions have their last stamps.
-- Assumes nothing.
use mathlib.Core.Path.{refl, ◌∙◌}
use native.Mathlib.Omega.{arith}
use lib.ListN.{length-set}
use Rattle.loops.proofs.Tables.{as_lent, made_all, made_next}
use Rattle.start_clusters.proofs.fill_stamps.Goals as goal

pub loop-r-init : goal.loop-r-init
loop-r-init c = (refl, as_lent _ _ _ c.requires.stamps_len)

pub loop-r-preserved : goal.loop-r-preserved
loop-r-preserved c = (simp length-set c.loop-r.invariant.0, made_next _ _ _ _ _ _ c.loop-r-test.true c.loop-r.invariant.1 c.last_stamp.ensures)

pub returns : goal.returns
returns c = c.loop-r.invariant.1 ∙ made_all _ _ _ _ (omega arith)
