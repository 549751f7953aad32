-- `call_why::planned`: each arm is given that the plan is its constructor; where it reclaims, the victim's marks are its valid frames.
-- Assumes nothing.
use Rattle.call_why.specs.Why.{forecast_numbers, plan_numbers}
use Rattle.call_why.proofs.Forecasts.{counted}
use Rattle.call_why.proofs.planned.Goals as goal

pub count_marks-requires : goal.count_marks-requires
count_marks-requires c = rw c.in-Reclaims.is at c.requires

pub returns-in-Continues : goal.returns-in-Continues
unfolding forecast_numbers plan_numbers
returns-in-Continues c b right = rw c.in-Continues.is

pub returns-in-Opens : goal.returns-in-Opens
unfolding forecast_numbers plan_numbers
returns-in-Opens c b right = rw c.in-Opens.is

pub returns-in-Reclaims : goal.returns-in-Reclaims
unfolding forecast_numbers plan_numbers
returns-in-Reclaims c b right =
    let words = rw c.in-Reclaims.is at c.requires in
    let n = counted _ words.fine _ b right _ _ _ c.count_marks.ensures in
    rw (c.in-Reclaims.is, n)
