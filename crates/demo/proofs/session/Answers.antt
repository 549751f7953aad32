-- `demo::session`: the lines that are ended, and the last one if it is begun.
-- Assumes nothing.
use Rattle.std.proofs.Common.{sym, ◌∙◌}
use Rattle.demo.proofs.Served.{last_answered, none_left}
use Rattle.demo.proofs.session.Goals as goal

pub returns-in_ok-answer : goal.returns-in_ok-answer
returns-in_ok-answer g c =
    let e = c.in_ok-held.ensures in
    last_answered e _ (sym (c.is_begun.ensures _ e.served.holds) ∙ c.if-is_begun.true) (rw (c.asked.ensures e.served.begun e.served.holds) at c.in_ok-answer.ensures.text)

pub returns-else-is_begun : goal.returns-else-is_begun
returns-else-is_begun g c =
    let e = c.in_ok-held.ensures in
    none_left e (sym (c.is_begun.ensures _ e.served.holds) ∙ c.if-is_begun.false)
