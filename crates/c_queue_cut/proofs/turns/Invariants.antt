-- `c_queue_cut::turns`: after i turns, with what is then left of the budget, what is left to serve comes to the same as the whole.
-- Assumes nothing.
use Prim.Native.Nat.{◌≤◌}
use Rattle.rules.specs.Tables.{board_of}
use Rattle.c_queue.specs.Flat.{TurnsAsked}
use Rattle.c_queue.proofs.Taking.{Long}
use Rattle.c_queue_cut.proofs.Taking.{So}
use Rattle.c_queue_cut.proofs.turns.Given as goal

abbrev pub invariant-loop-i : goal.invariant-loop-i
invariant-loop-i l =
    (l.i ≤ l.n)
    × Long (board_of l.initial.chip l.initial.ct l.initial.bt l.initial.fst l.initial.bst l.initial.wear l.initial.marks l.initial.stamps) l.initial.answers (board_of l.chip l.ct l.bt l.fst l.bst l.wear l.marks l.stamps) l.answers
    × (TurnsAsked l.p l.ordered (board_of l.initial.chip l.initial.ct l.initial.bt l.initial.fst l.initial.bst l.initial.wear l.initial.marks l.initial.stamps) l.requests l.initial.answers l.n
    → So l.p l.ordered l.requests l.bytes l.n (board_of l.initial.chip l.initial.ct l.initial.bt l.initial.fst l.initial.bst l.initial.wear l.initial.marks l.initial.stamps) l.initial.answers l.budget l.i (board_of l.chip l.ct l.bt l.fst l.bst l.wear l.marks l.stamps) l.answers l.left)
