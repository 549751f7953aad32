-- `start_clusters::stamp_at`: the stamp of that frame.
-- Assumes nothing.
use mathlib.Core.Path.{◌∙◌}
use Rattle.rules.specs.Regions.{stamp_in}
use Rattle.start_clusters.proofs.stamp_at.Goals as goal

pub returns : goal.returns
unfolding stamp_in
returns c = c.stamp_in.ensures ∙ rw c.frame_at.ensures.result_value
