-- `write_choose::lowest_unassigned`: after v turns, each of the first v virtual blocks has a block.
-- Assumes nothing.
use mathlib.Core.Path.{◌≡◌}
use Rattle.rules.specs.Tables.{not_found}
use Rattle.write_choose.specs.Search.{lowest_none}
use Rattle.write_choose.proofs.lowest_unassigned.Given as goal

abbrev pub invariant-loop-v : goal.invariant-loop-v
invariant-loop-v l = lowest_none l.p l.bt l.r l.v ≡ not_found
