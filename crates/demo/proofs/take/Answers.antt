-- `demo::take`: LF answers the line that is begun, and any other byte is added to it.
-- Assumes nothing.
use Rattle.std.proofs.lemmas.Bool.{ne_eqb}
use Rattle.demo.proofs.Served.{byte_taken, line_taken}
use Rattle.demo.proofs.take.Goals as goal

pub returns-in_ok-answer : goal.returns-in_ok-answer
returns-in_ok-answer g c = λ l i.
    let e = c.asked.ensures l i in
    rw c.if-b-eq10.true
    (line_taken _ _ _ _ l _ c.none.ensures (rw e at c.in_ok-answer.ensures.text) (rw e at c.in_ok-answer.ensures.turned))

pub returns-else-b-eq10 : goal.returns-else-b-eq10
returns-else-b-eq10 g c = λ l i. byte_taken _ _ l _ _ (c.push.ensures l i) (ne_eqb _ 10 c.if-b-eq10.false)
