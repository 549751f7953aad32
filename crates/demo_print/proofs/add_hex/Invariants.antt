-- `demo_print::add_hex`: the bytes passed stand in hex, two digits a byte.
use Rattle.std.proofs.Common.{◌≡◌, ◌++◌, ◌+◌, ◌*◌, length, take}
use Rattle.demo_print.specs.Output.{hex}
use Rattle.demo_print.proofs.add_hex.Given as goal

abbrev pub invariant-loop-b : goal.invariant-loop-b
invariant-loop-b g l = (l.line.items ≡ l.fn.line.items ++ hex (take l.b-index l.bytes)) × (length l.line.items ≡ length l.fn.line.items + 2 * l.b-index)
