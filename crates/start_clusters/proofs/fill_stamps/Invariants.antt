-- `start_clusters::fill_stamps`: after r turns the first r regions have their last stamps.
-- Assumes nothing.
use mathlib.Core.Path.{◌≡◌}
use lib.ListN.{length, get_or}
use Rattle.loops.proofs.Tables.{made_to}
use Rattle.rules.specs.Regions.{largest_stamp}
use Rattle.rules.specs.Start.{found_view}
use Rattle.start_clusters.proofs.fill_stamps.Given as goal

abbrev pub invariant-loop-r : goal.invariant-loop-r
invariant-loop-r l = (length l.stamps ≡ length l.initial.stamps) × (l.stamps ≡ made_to l.p.mu (λ r'. largest_stamp l.p (found_view l.p l.chip l.bt r')) (λ r'. get_or l.initial.stamps r' 0) l.r)
