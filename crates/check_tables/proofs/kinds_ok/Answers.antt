-- `check_tables::kinds_ok`: every block passed is 0, 1 or 2, and those that are used are counted.
-- Assumes nothing.
use mathlib.Core.Path.{◌≡◌}
use mathlib.Core.Bool.{Bool, cond}
use Prim.Native.Nat.{ℕ, ◌+◌}
use native.Mathlib.Numerals.{add-one}
use native.Mathlib.Omega.{arith}
use lib.Dec.{eqb, leb}
use borrow.Author.Tests.{le-leb, lt-leb}
use Rattle.std.proofs.Common.{rules}
use Rattle.lists.specs.Below.{count_below}
use Rattle.rules.specs.Orderly.{bst_rule}
use Rattle.rules.specs.Tables.{bst_at}
use Rattle.loops.proofs.Below.{all_end, all_fails, all_more, all_start, count_start}
use Rattle.check_tables.specs.Entries.{kinds_ok}
use Rattle.check_tables.proofs.kinds_ok.Goals as goal

count-if : (f : ℕ → Bool) (i k t : ℕ) → k ≡ count_below i f → t ≡ cond (f i) 1 0 → k + t ≡ count_below (i + 1) f
unfolding count_below
count-if f i k t e q = rw (add-one i, e, q)

pub loop-s-init : goal.loop-s-init
loop-s-init c = (omega arith, all_start _, count_start _)

pub returns-then-s-gt-RESERVED : goal.returns-then-s-gt-RESERVED
unfolding kinds_ok bst_rule bst_at
returns-then-s-gt-RESERVED c =
    rw (all_fails c.args.p.N c.loop-s.s-index (λ n. leb (bst_at c.args.bst.now n) 2) (omega (arith, c.loop-s-test.true, c.requires))
    (lt-leb _ _ c.if-s-gt-RESERVED.true))

pub loop-s-preserved : goal.loop-s-preserved
unfolding bst_at
loop-s-preserved c =
    let i = c.loop-s.invariant in (
      search (arith, c.from-used.ensures, i.0),
      all_more _ _ i.1 (le-leb _ _ c.if-s-gt-RESERVED.false),
      count-if (λ n. eqb (bst_at c.args.bst.now n) 1) _ _ _ i.2 (search (rules, c.from-used.ensures)),
    )

pub returns : goal.returns
unfolding kinds_ok bst_rule
returns c =
    let e : c.loop-s.s-index ≡ c.args.p.N = omega (arith, c.requires, c.loop-s-test.false) in
    let i = c.loop-s.invariant in
    let u : c.loop-s.used ≡ count_below c.args.p.N (λ n. eqb (bst_at c.args.bst.now n) 1) = rw e at i.2 in
    rw (u, all_end c.args.p.N _ _ e i.1)
