-- `demo_print::print_format`: the counts, and the line's end.
use Rattle.demo_print.specs.Output.{format_line}
use Rattle.demo_print.proofs.print_format.Goals as goal

pub returns : goal.returns
unfolding format_line
returns c = rw (c.push.ensures.items, c.counts-line.ensures.text)
