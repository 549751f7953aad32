-- `check_board::bound_of`: the entry, or the largest stamp.
-- Assumes nothing.
use Rattle.check_board.specs.Order.{bound_of}
use Rattle.check_board.proofs.bound_of.Goals as goal

pub returns-then-bound : goal.returns-then-bound
unfolding bound_of
returns-then-bound c = rw c.if-bound.true c.stamp_at.ensures

pub returns : goal.returns
unfolding bound_of
returns c = rw c.if-bound.false
