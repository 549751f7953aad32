-- `demo_print::put`: the bytes are copied into the part from `at` on.
use Rattle.std.proofs.Common.{arith, refl}
use Rattle.demo_print.proofs.Puts.{copied}
use Rattle.demo_print.proofs.put.Goals as goal

pub returns : goal.returns
returns c = record { next = refl; stored = rw c.copy_from_slice.ensures.after (copied _ _ _ _ (omega arith) c.requires) }
