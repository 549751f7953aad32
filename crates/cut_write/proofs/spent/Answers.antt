-- `cut_write::spent`: no operation is counted.
-- Assumes nothing.
use mathlib.Core.Path.{refl}
use Rattle.rules.specs.Calls.{answer_of}
use Rattle.rules.specs.Traces.{erases_in, programs_in}
use Rattle.cut_write.proofs.spent.Goals as goal

pub returns : goal.returns
unfolding answer_of programs_in erases_in
returns c =
    record {
      answer_value = refl;
      left_value = refl;
    }
