-- `check_board::counts_ok`: the two counts.
-- Assumes nothing.
use Rattle.rules.specs.Tables.{ct_at}
use Rattle.check_board.specs.Order.{counts_ok, named}
use Rattle.check_board.proofs.counts_ok.Goals as goal

pub returns : goal.returns
unfolding counts_ok named ct_at
returns c = rw (← c.count_named-k.ensures, ← c.count_marked.ensures)
