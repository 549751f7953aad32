-- `start_blocks::name_fulls`: after n turns the full blocks below n are in BT.
-- Assumes nothing.
use mathlib.Core.Path.{◌≡◌}
use Rattle.start_blocks.specs.Named.{fulls_to}
use Rattle.start_blocks.proofs.name_fulls.Given as goal

abbrev pub invariant-loop-n : goal.invariant-loop-n
invariant-loop-n l = (l.bt ≡ fulls_to l.p l.chip l.n)
