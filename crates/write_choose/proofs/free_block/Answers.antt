-- `write_choose::free_block`: after i turns, the best of the first i blocks.
-- Assumes nothing.
use mathlib.Core.Path.{◌≡◌, sym, ◌∙◌}
use native.Mathlib.Omega.{arith}
use Rattle.rules.proofs.Sizes.{sizes}
use Rattle.rules.specs.Write.{free_block}
use Rattle.write_choose.proofs.Turns.{compared, least_here, least_later, least_none}
use Rattle.write_choose.proofs.free_block.Goals as goal
use Rattle.write_choose.proofs.free_block.Goals.{then-is_better, else-is_better}

pub loop-i-init : goal.loop-i-init
loop-i-init c = least_none _ _

pub is_better-requires : goal.is_better-requires
is_better-requires c = compared _ _ _ c.requires _ _ c.loop-i-test.true c.loop-i.invariant

pub loop-i-preserved : goal.loop-i-preserved
loop-i-preserved c =
    let z = sizes _ c.requires.fine in
    elim c.if-is_better.branch [
      | then-is_better w ↦ rw w.best-is (least_here _ _ _ _ (omega (arith, z.blocks)) c.loop-i.invariant (sym c.is_better.ensures ∙ w.if-is_better.true), omega arith)
      | else-is_better w ↦ rw w.best-is (least_later _ _ _ _ (omega (arith, z.blocks)) c.loop-i.invariant (sym c.is_better.ensures ∙ w.if-is_better.false))
    ]

pub returns : goal.returns
unfolding free_block
returns c =
    let e : c.loop-i.i ≡ c.args.p.N = omega arith in
    rw e at c.loop-i.invariant
