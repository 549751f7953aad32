-- `demo_print::print_write`: the counts, one number more, and the line's end.
use Rattle.std.proofs.Common.{append_assoc}
use Rattle.demo_print.specs.Output.{write_line}
use Rattle.demo_print.proofs.print_write.Goals as goal

pub returns : goal.returns
unfolding write_line
returns c = rw (c.push.ensures.items, c.add_number.ensures.text, c.counts-line.ensures.text, append_assoc)
