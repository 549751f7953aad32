-- `demo_lines::asked`: no line of more than 64 bytes is of a known form.
use Rattle.std.proofs.Common.{sym}
use Rattle.demo_lines.proofs.LongLines.{long_line}
use Rattle.demo_lines.proofs.asked.Goals as goal

pub returns-in-None : goal.returns-in-None
returns-in-None c = λ l k. sym (long_line l (rw c.in-None.is at k))
