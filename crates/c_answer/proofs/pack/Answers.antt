-- `c_answer::pack`: no sum wraps, since the reply and the programs are below 65,536.
-- Assumes nothing.
use native.Mathlib.Omega.{arith}
use Rattle.c_answer.specs.Packed.{packed}
use Rattle.rules.proofs.Outcomes.{number_low}
use Rattle.c_answer.proofs.pack.Goals as goal

pub overflow_add-result-2 : goal.overflow_add-result-2
overflow_add-result-2 c = omega (arith, number_low c.args.a.reply, c.requires)

pub returns : goal.returns
returns c = unfold packed in omega arith
