-- `demo::take_input`: what a turn's read gave is taken.
-- Assumes nothing.
use Rattle.std.proofs.Common.{arith}
use Rattle.demo.proofs.Served.{going_first, going_on}
use Rattle.demo.proofs.take_input.Goals as goal

pub loop-turn-init : goal.loop-turn-init
loop-turn-init g c = going_first _ _ _ _ c.none-held.ensures

pub loop-turn-preserved : goal.loop-turn-preserved
loop-turn-preserved g c =
    let p = c.loop-turn.invariant in
    going_on p c.in_ok-n.ensures.bytes.0 (omega (arith, c.in_ok-n.ensures.bound.1)) (c.in_ok-held.ensures p.served.begun p.served.holds)
