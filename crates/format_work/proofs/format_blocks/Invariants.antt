-- `format_work::format_blocks`: after n turns the operations of the first n blocks are made.
-- Assumes nothing.
use Rattle.format_work.specs.Blocks.{BlocksAsked}
use Rattle.format_work.proofs.Turns.{So}
use Rattle.format_work.proofs.format_blocks.Given as goal

abbrev pub invariant-loop-n : goal.invariant-loop-n
invariant-loop-n l =
    (a : BlocksAsked l.p l.initial.chip l.initial.bst l.initial.wear) → So l.p l.initial.chip l.initial.bst l.initial.wear a l.n l.chip l.bst l.wear l.k
