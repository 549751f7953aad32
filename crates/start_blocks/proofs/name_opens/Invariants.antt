-- `start_blocks::name_opens`: after n turns the blocks below n are gone over.
-- Assumes nothing.
use Prim.Native.Nat.{◌≤◌}
use Rattle.start_blocks.specs.Named.{StartAsked}
use Rattle.start_blocks.proofs.Opens.{So}
use Rattle.start_blocks.proofs.name_opens.Given as goal

abbrev pub invariant-loop-n : goal.invariant-loop-n
invariant-loop-n l = (l.n ≤ l.p.N) × ((a : StartAsked l.p l.initial.chip l.initial.bt) → So l.p l.initial.chip l.initial.bt l.initial.wear a l.n l.chip l.bt l.wear l.k)
