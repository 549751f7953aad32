-- `cut_erases::erase_first`: after n turns the first k operations of the blocks below n are made, and what is left is k less all of these.
-- Assumes nothing.
use Rattle.format_work.specs.Blocks.{BlocksAsked}
use Rattle.cut_erases.proofs.First.{So}
use Rattle.cut_erases.proofs.erase_first.Given as goal

abbrev pub invariant-loop-n : goal.invariant-loop-n
invariant-loop-n l = (a : BlocksAsked l.p l.initial.chip l.bst l.initial.wear) → So l.p l.initial.chip l.bst l.initial.wear l.k a l.n l.chip l.wear l.left
