-- `cut_erases::count_listed`: after n turns, how many operations the blocks below n take, at most two each.
-- Assumes nothing.
use mathlib.Core.Path.{◌≡◌}
use native.Mathlib.Omega.{arith}
use Rattle.rules.proofs.Sizes.{sizes}
use Rattle.cut_erases.proofs.First.{count_all, count_more, count_none, ops_few}
use Rattle.cut_erases.proofs.count_listed.Goals as goal

pub loop-n-init : goal.loop-n-init
loop-n-init c = (omega arith, count_none _ _ _)

pub overflow_add-k : goal.overflow_add-k
overflow_add-k c = omega (arith, c.loop-n.invariant.0, c.loop-n-test.true, c.ops_of-k.ensures, ops_few c.args.p c.args.bst.now c.args.wear.now c.loop-n.n, (sizes _ c.requires.p_value).blocks)

pub loop-n-preserved : goal.loop-n-preserved
loop-n-preserved c = (
  omega (arith, c.loop-n.invariant.0, c.ops_of-k.ensures, ops_few c.args.p c.args.bst.now c.args.wear.now c.loop-n.n),
  count_more _ _ _ _ _ _ c.loop-n.invariant.1 c.ops_of-k.ensures,
)

pub returns : goal.returns
returns c =
    let e : c.loop-n.n ≡ c.args.p.N = omega arith in
    count_all _ _ _ _ _ e c.loop-n.invariant.1
