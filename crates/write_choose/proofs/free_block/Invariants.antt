-- `write_choose::free_block`: after i turns, the best of the first i blocks.
-- Assumes nothing.
use Rattle.write_choose.proofs.Turns.{Least}
use Rattle.write_choose.proofs.free_block.Given as goal

abbrev pub invariant-loop-i : goal.invariant-loop-i
invariant-loop-i l = Least l.bst l.wear l.i l.best
