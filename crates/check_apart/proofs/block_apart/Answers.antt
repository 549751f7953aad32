-- `check_apart::block_apart`: every frame passed differs from those before it, and was seen.
-- Assumes nothing.
use mathlib.Core.Path.{sym, ◌∙◌}
use native.Mathlib.Omega.{arith}
use Rattle.loops.proofs.Below.{all_more, all_start}
use Rattle.check_apart.proofs.Turns.{block_all, block_fails}
use Rattle.check_apart.proofs.block_apart.Goals as goal

pub loop-f-init : goal.loop-f-init
loop-f-init c = (all_start _, c.requires.seen)

pub returns-then-not-frame_apart : goal.returns-then-not-frame_apart
returns-then-not-frame_apart c = block_fails _ _ _ _ _ _ (omega (arith, c.loop-f-test.true, c.frames-f-end.ensures)) _ c.if-not-frame_apart.true c.frame_apart.ensures

pub loop-f-preserved : goal.loop-f-preserved
loop-f-preserved c =
    let done = c.frame_apart.ensures in
    (all_more _ _ c.loop-f.invariant.0 (sym done.said ∙ c.if-not-frame_apart.false), done.seen c.if-not-frame_apart.false)

pub returns : goal.returns
returns c = block_all _ _ _ _ _ _ (omega (arith, c.frames-f-end.ensures)) c.loop-f.invariant.0 c.loop-f.invariant.1
