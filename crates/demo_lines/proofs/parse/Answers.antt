-- `demo_lines::parse`: a write, or a read, or neither.
use Rattle.demo_lines.proofs.Verdict.{asked}
use Rattle.demo_lines.proofs.parse.Goals as goal

pub returns : goal.returns
returns c = rw (c.unwrap_or.ensures, c.or.ensures) (asked c.args.s.now c.write_of.result c.read_of.result c.write_of.ensures c.read_of.ensures)
