-- `cut_erases::erase_first`: after n turns the first k operations of the blocks below n are made, and what is left is k less all of these.
-- Assumes nothing.
use mathlib.Core.Path.{◌≡◌}
use native.Mathlib.Omega.{arith}
use Rattle.cut_erases.proofs.First.{asked, at_first, ended, takes, turn}
use Rattle.cut_erases.proofs.erase_first.Goals as goal

pub loop-n-init : goal.loop-n-init
loop-n-init c a = at_first _ _ _ _ _ a

pub erase_listed-left-requires : goal.erase_listed-left-requires
erase_listed-left-requires c =
    let a = c.requires in
    asked _ _ _ _ _ a _ c.loop-n-test.true _ _ _ (c.loop-n.invariant a)

pub overflow_sub-left : goal.overflow_sub-left
overflow_sub-left c =
    let a = c.requires in
    omega (arith, (takes _ _ _ _ _ a _ c.loop-n-test.true _ _ _ (c.loop-n.invariant a) _ _ _ c.erase_listed-left.ensures).0)

pub loop-n-preserved : goal.loop-n-preserved
loop-n-preserved c a = turn _ _ _ _ _ a _ c.loop-n-test.true _ _ _ (c.loop-n.invariant a) _ _ _ c.erase_listed-left.ensures

pub returns : goal.returns
returns c =
    let e : c.loop-n.n ≡ c.args.p.N = omega arith in
    let both = ended _ _ _ _ _ c.requires _ _ _ _ e (c.loop-n.invariant c.requires) in
    record { chip_after = both.0; wear_after = both.1 }
