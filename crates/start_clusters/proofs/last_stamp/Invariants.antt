-- `start_clusters::last_stamp`: after i turns the largest stamp of the first i frames.
-- Assumes nothing.
use mathlib.Core.Path.{◌≡◌}
use Rattle.rules.specs.Start.{found_view}
use Rattle.start_clusters.specs.Newest.{stamp_to}
use Rattle.start_clusters.proofs.last_stamp.Given as goal

abbrev pub invariant-loop-i : goal.invariant-loop-i
invariant-loop-i l = (l.last ≡ stamp_to l.p (found_view l.p l.chip l.bt l.r) l.i)
