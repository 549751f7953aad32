-- `reply_rows::looked`: nothing is counted over no operations.
-- Assumes nothing.
use mathlib.Core.Path.{refl}
use Rattle.rules.specs.Traces.{programs_in, erases_in}
use Rattle.rules.specs.Calls.{answer_of}
use Rattle.reply_rows.proofs.looked.Goals as goal

pub returns : goal.returns
unfolding answer_of programs_in erases_in
returns c = refl
