-- `start_fst::fill_fst`: after r turns the first r entries are made.
-- Assumes nothing.
use mathlib.Core.Path.{◌≡◌}
use lib.ListN.{get_or}
use Rattle.loops.proofs.Tables.{made_to}
use Rattle.rules.specs.Start.{found_fst, found_view}
use Rattle.start_fst.proofs.fill_fst.Given as goal

abbrev pub invariant-loop-r : goal.invariant-loop-r
invariant-loop-r l = (l.fst ≡ made_to l.p.mu (λ r'. found_fst l.p (found_view l.p l.chip l.bt r')) (λ r'. get_or l.initial.fst r' 0) l.r)
