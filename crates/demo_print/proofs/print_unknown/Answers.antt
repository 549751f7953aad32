-- `demo_print::print_unknown`: the two bytes.
use Rattle.demo_print.specs.Output.{unknown_line}
use Rattle.demo_print.proofs.print_unknown.Goals as goal

pub returns : goal.returns
unfolding unknown_line
returns c = rw (c.add.ensures, c.new-line.ensures)
