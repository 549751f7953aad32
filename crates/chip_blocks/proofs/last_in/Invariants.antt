-- `chip_blocks::last_in`: from the last frame of the place downwards; no frame passed holds the cluster, and each programmed one is counted (Looks.antt).
-- Assumes nothing.
use Rattle.rules.proofs.Sizes.{Sizes}
use Rattle.chip_blocks.proofs.Looks.{Searched}
use Rattle.chip_blocks.proofs.last_in.Given as goal

abbrev pub invariant-loop-f : goal.invariant-loop-f
invariant-loop-f l = (z : Sizes l.p) → Searched l.p z l.blk l.k l.c.0 l.f l.looks
