-- `chip_tables::count_named`: the entries passed that are not none are counted.
-- Assumes nothing.
use mathlib.Core.Path.{◌≡◌}
use mathlib.Core.Bool.{Bool, cond, not}
use Prim.Native.Nat.{ℕ, ◌+◌}
use native.Mathlib.Numerals.{add-one}
use native.Mathlib.Omega.{arith}
use lib.Dec.{eqb}
use lib.ListN.{get_or, length}
use Rattle.std.proofs.Common.{rules, tests}
use Rattle.lists.specs.Below.{count_below}
use Rattle.rules.specs.Tables.{none}
use Rattle.loops.proofs.Below.{count_start}
use Rattle.loops.proofs.Elements.{default}
use Rattle.chip_tables.proofs.count_named.Goals as goal

count-if : (f : ℕ → Bool) (i k t : ℕ) → k ≡ count_below i f → t ≡ cond (f i) 1 0 → k + t ≡ count_below (i + 1) f
unfolding count_below
count-if f i k t e q = rw (add-one i, e, q)

pub loop-x-init : goal.loop-x-init
loop-x-init c = (omega arith, count_start _)

pub loop-x-preserved : goal.loop-x-preserved
loop-x-preserved c =
    let i = c.loop-x.invariant in (
      search (arith, c.from-k.ensures, i.0),
      count-if (λ n. not (eqb (get_or c.args.table.now n none) none)) _ _ _ i.1
          (rw (← (default c.args.table.now c.loop-x.x-index 0 none (omega (arith, c.loop-x-test.true)))) (search (rules, tests, c.from-k.ensures))),
    )

pub returns : goal.returns
returns c =
    let e : c.loop-x.x-index ≡ length c.args.table.now = omega (arith, c.loop-x-test.false) in
    rw (← e) c.loop-x.invariant.1
