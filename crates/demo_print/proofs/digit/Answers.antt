-- `demo_print::digit` meets its contract: the test decides the case.
use Rattle.std.proofs.Common.{arith, lt-ltb, le-ltb}
use Rattle.demo_print.specs.Output.{digit}
use Rattle.demo_print.proofs.digit.Goals as goal

pub returns-then-d-lt10 : goal.returns-then-d-lt10
unfolding digit
returns-then-d-lt10 c = rw (lt-ltb _ _ c.if-d-lt10.true)

pub returns-else-d-lt10 : goal.returns-else-d-lt10
unfolding digit
returns-else-d-lt10 c = rw (le-ltb _ _ c.if-d-lt10.false) (omega arith)
