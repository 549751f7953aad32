-- `demo::take_input`: each turn's read gave bytes, and these are taken.
-- Assumes nothing.
use Rattle.demo_board.specs.Store.{store_board}
use Rattle.demo.proofs.Served.{Going}
use Rattle.demo.proofs.take_input.Given as goal

abbrev pub invariant-loop-turn : goal.invariant-loop-turn
invariant-loop-turn g l =
    Going (g.R.Read.remaining l.fn.from) (g.R.Read.remaining l.from) (g.W.Write.contents l.fn.to) (g.W.Write.contents l.to)
    (store_board l.fn.store)
    (store_board l.store)
    l.held
    l.turn
