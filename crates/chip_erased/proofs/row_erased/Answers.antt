-- `chip_erased::row_erased`: the bits gathered are all bits exactly if the bytes passed so far are 255.
-- Assumes nothing.
use native.Mathlib.Omega.{arith}
use Rattle.loops.proofs.Elements.{all_done, all_none, bits_more}
use Rattle.chip_erased.proofs.row_erased.Goals as goal

pub loop-b-init : goal.loop-b-init
loop-b-init c = (omega arith, all_none 255 c.args.row.now)

pub loop-b-preserved : goal.loop-b-preserved
loop-b-preserved c = bits_more c.args.row.now c.loop-b.b-index c.loop-b.all (omega arith) c.loop-b.invariant.0 (omega arith) c.loop-b.invariant.1

pub returns : goal.returns
returns c = all_done 255 _ c.loop-b.b-index _ (omega arith) c.loop-b.invariant.1
