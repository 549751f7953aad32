-- `write_work::no_block_left`: no operation is made, so both counts are 0.
-- Assumes nothing.
use mathlib.Core.Path.{refl}
use Rattle.rules.specs.Calls.{answer_of}
use Rattle.rules.specs.Traces.{erases_in, programs_in}
use Rattle.write_work.proofs.no_block_left.Goals as goal

pub returns : goal.returns
unfolding answer_of programs_in erases_in
returns c = refl
