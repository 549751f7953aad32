-- `start_clusters::last_stamp`: after i turns the largest stamp of the first i frames.
-- Assumes nothing.
use mathlib.Core.Path.{◌∙◌}
use native.Mathlib.Omega.{arith}
use Rattle.start_clusters.proofs.Stamps.{stamp_end, stamp_start}
use Rattle.start_clusters.proofs.last_stamp.Goals as goal

pub loop-i-init : goal.loop-i-init
loop-i-init c = stamp_start _ _

pub returns : goal.returns
returns c = c.loop-i.invariant ∙ stamp_end _ _ _ (omega (arith, c.region_frames-i-end.ensures))
