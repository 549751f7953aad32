-- `demo_print::counts`: the pieces, one after the other.
use Rattle.std.proofs.Common.{append_assoc, ◌∷◌}
use Rattle.rules.specs.Replies.{number_of}
use Rattle.demo_print.specs.Output.{counts, decimal}
use Rattle.demo_print.proofs.counts.Goals as goal

pub returns-clause-text : goal.returns-clause-text
unfolding counts
returns-clause-text c =
    let a = c.args.a in
    rw (c.add_number-3.ensures.text, c.add_number-2.ensures.text, c.add_number.ensures.text, c.push.ensures.items, c.new-line.ensures, c.from.ensures)
    (rw (append_assoc (decimal (number_of a.reply)) (9 ∷ decimal a.programs) (9 ∷ decimal a.erases)))
