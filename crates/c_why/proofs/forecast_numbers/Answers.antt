-- `c_why::forecast_numbers`: case by case; each number fits, as was asked.
-- Assumes nothing.
use Rattle.call_why.specs.Why.{forecast_numbers}
use Rattle.c_why.proofs.forecast_numbers.Goals as goal

pub overflow_cast-result : goal.overflow_cast-result
unfolding forecast_numbers
overflow_cast-result c = record { fits = (rw c.in-Continues.is at c.requires).1.0 }

pub overflow_cast-result-in-Continues : goal.overflow_cast-result-in-Continues
unfolding forecast_numbers
overflow_cast-result-in-Continues c = record { fits = (rw c.in-Continues.is at c.requires).1.1.0 }

pub overflow_cast-result-in-Opens : goal.overflow_cast-result-in-Opens
unfolding forecast_numbers
overflow_cast-result-in-Opens c = record { fits = (rw c.in-Opens.is at c.requires).1.0 }

pub overflow_cast-result-in-Reclaims : goal.overflow_cast-result-in-Reclaims
unfolding forecast_numbers
overflow_cast-result-in-Reclaims c = record { fits = (rw c.in-Reclaims.is at c.requires).1.0 }

pub overflow_cast-result-in-Reclaims-2 : goal.overflow_cast-result-in-Reclaims-2
unfolding forecast_numbers
overflow_cast-result-in-Reclaims-2 c = record { fits = (rw c.in-Reclaims.is at c.requires).1.1.0 }

pub overflow_cast-result-in-Reclaims-3 : goal.overflow_cast-result-in-Reclaims-3
unfolding forecast_numbers
overflow_cast-result-in-Reclaims-3 c = record { fits = (rw c.in-Reclaims.is at c.requires).1.1.1.0 }

pub returns-in-Continues : goal.returns-in-Continues
unfolding forecast_numbers
returns-in-Continues c = rw c.in-Continues.is

pub returns-in-Opens : goal.returns-in-Opens
unfolding forecast_numbers
returns-in-Opens c = rw c.in-Opens.is

pub returns-in-Reclaims : goal.returns-in-Reclaims
unfolding forecast_numbers
returns-in-Reclaims c = rw c.in-Reclaims.is

pub returns-in-NoStamp : goal.returns-in-NoStamp
unfolding forecast_numbers
returns-in-NoStamp c = rw c.in-NoStamp.is

pub returns-in-NoBlock : goal.returns-in-NoBlock
unfolding forecast_numbers
returns-in-NoBlock c = rw c.in-NoBlock.is
