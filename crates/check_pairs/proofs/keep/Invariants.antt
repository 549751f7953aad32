-- `check_pairs::keep`: after v turns the first v entries are those of the kept blocks.
-- Assumes nothing.
use Rattle.check_pairs.proofs.Keeps.{KeptTo}
use Rattle.check_pairs.proofs.keep.Given as goal

abbrev pub invariant-loop-v : goal.invariant-loop-v
invariant-loop-v l = KeptTo l.initial.full l.part l.v l.full
