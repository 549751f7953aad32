-- `demo_print::add_number`: a tab, and the digits that std prints.
use Rattle.std.proofs.Common.{append_assoc}
use Rattle.demo_print.proofs.Digits.{decimal_is}
use Rattle.demo_print.proofs.add_number.Goals as goal

pub returns-clause-text : goal.returns-clause-text
returns-clause-text g c =
    rw (c.add.ensures, c.push.ensures.items, c.as_bytes.ensures.value, c.format.ensures.text, append_assoc, decimal_is c.args.n c.ranges.n.fits)
