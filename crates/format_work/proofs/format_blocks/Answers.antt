-- `format_work::format_blocks`: after n turns the operations of the first n blocks are made.
-- Assumes nothing.
use mathlib.Core.Path.{◌≡◌}
use native.Mathlib.Omega.{arith}
use Rattle.format_work.proofs.Turns.{start, asked, turn, done}
use Rattle.format_work.proofs.format_blocks.Goals as goal

pub loop-n-init : goal.loop-n-init
loop-n-init c a = start _ _ _ _ a

pub format_block-k-requires : goal.format_block-k-requires
format_block-k-requires c = asked _ _ _ _ c.requires _ c.loop-n-test.true _ _ _ _ (c.loop-n.invariant c.requires)

pub overflow_add-k : goal.overflow_add-k
overflow_add-k c =
    let a = c.requires in
    omega (arith, (turn _ _ _ _ a _ c.loop-n-test.true _ _ _ _ (c.loop-n.invariant a) _ _ _ _ c.format_block-k.ensures).erased.few)

pub loop-n-preserved : goal.loop-n-preserved
loop-n-preserved c a = turn _ _ _ _ a _ c.loop-n-test.true _ _ _ _ (c.loop-n.invariant a) _ _ _ _ c.format_block-k.ensures

pub returns : goal.returns
returns c =
    let e : c.loop-n.n ≡ c.args.p.N = omega arith in
    done _ _ _ _ c.requires _ _ _ _ _ e (c.loop-n.invariant c.requires)
