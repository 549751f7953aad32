-- `check_pairs::fill`: after n turns the rows have the first n blocks.
-- Assumes nothing.
use native.Mathlib.Omega.{arith}
use Rattle.rules.proofs.Sizes.{sizes}
use Rattle.check_pairs.proofs.Fills.{filled_all}
use Rattle.check_pairs.proofs.Rows.{row_start}
use Rattle.check_pairs.proofs.fill.Goals as goal

pub loop-n-init : goal.loop-n-init
loop-n-init c =
    let few = (sizes _ c.requires.asked.fine).gamma_high in
    (row_start _ few _ _ c.requires.full_value, row_start _ few _ _ c.requires.part_value)

pub returns : goal.returns
returns c = filled_all _ _ _ _ _ _ (omega arith) c.loop-n.invariant.0 c.loop-n.invariant.1
