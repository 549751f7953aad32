-- `demo::take_all`: the bytes passed are taken.
-- Assumes nothing.
use Rattle.std.proofs.Common.{ℕ, List, take}
use Rattle.demo_board.specs.Store.{store_board}
use Rattle.demo_lines.specs.Held.{Holds}
use Rattle.demo.specs.Served.{Served}
use Rattle.demo.proofs.take_all.Given as goal

abbrev pub invariant-loop-b : goal.invariant-loop-b
invariant-loop-b g l =
    (begun : List ℕ) → Holds l.fn.held begun
    → Served (g.W.Write.contents l.fn.to) (g.W.Write.contents l.to)
    (store_board l.fn.store)
    (store_board l.store)
    begun (take l.b-index l.s) l.h
