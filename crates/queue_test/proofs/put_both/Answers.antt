-- `queue_test::put_both`: four entries are set, or none.
-- Assumes nothing.
use native.Mathlib.Omega.{arith}
use lib.ListN.{length-set, set}
use borrow.Author.Rules.{rules}
use Rattle.queue_test.proofs.Few.{placed_four, placed_none}
use Rattle.queue_test.proofs.put_both.Goals as goal

pub bounds-answers-1 : goal.bounds-answers-1
bounds-answers-1 c = rw (length-set c.args.answers.now) (omega (arith, c.if-answers-ge4.true))

pub bounds-answers-2 : goal.bounds-answers-2
bounds-answers-2 c = rw (length-set (set c.args.answers.now 0 c.args.first), length-set c.args.answers.now) (omega (arith, c.if-answers-ge4.true))

pub returns-then-answers-ge4 : goal.returns-then-answers-ge4
returns-then-answers-ge4 c = let a = c.args in placed_four a.first a.second a.looks a.looks2 a.answers.now (search rules)

pub returns-else-answers-ge4 : goal.returns-else-answers-ge4
returns-else-answers-ge4 c = let a = c.args in placed_none a.first a.second a.looks a.looks2 a.answers.now (search rules)
