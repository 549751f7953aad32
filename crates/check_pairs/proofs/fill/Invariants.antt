-- `check_pairs::fill`: after n turns the rows have the first n blocks.
-- Assumes nothing.
use Rattle.rules.specs.Start.{names_full, names_open}
use Rattle.check_pairs.specs.Rows.{Row}
use Rattle.check_pairs.proofs.fill.Given as goal

abbrev pub invariant-loop-n : goal.invariant-loop-n
invariant-loop-n l = Row l.p (names_full l.p l.chip l.r) l.n l.full × Row l.p (names_open l.p l.chip l.r) l.n l.part
