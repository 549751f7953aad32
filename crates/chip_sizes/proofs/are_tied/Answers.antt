-- `chip_sizes::are_tied`: the products are small, by the ranges.
-- Assumes nothing.
use Prim.Native.Nat.{◌*◌}
use native.Mathlib.Omega.{arith}
use borrow.Author.Tests.{lt-leb, le-leb}
use Rattle.rules.specs.Parameters.{frames, pages, per_region}
use Rattle.chip_sizes.specs.Checks.{tied}
use Rattle.chip_sizes.proofs.Checks.{ranged}
use Rattle.chip_sizes.proofs.are_tied.Goals as goal

pub overflow_mul-f : goal.overflow_mul-f
overflow_mul-f c = omega (arith, ranged _ c.requires)

pub overflow_mul-pages : goal.overflow_mul-pages
overflow_mul-pages c = omega (arith, ranged _ c.requires)

pub returns-then-pages-gt256 : goal.returns-then-pages-gt256
unfolding tied pages frames
returns-then-pages-gt256 c = rw (lt-leb _ _ c.if-pages-gt256.true)

pub overflow_sub-result : goal.overflow_sub-result
overflow_sub-result c = omega (arith, ranged _ c.requires)

pub overflow_add-result : goal.overflow_add-result
overflow_add-result c = omega (arith, ranged _ c.requires)

pub nonzero_div-result : goal.nonzero_div-result
nonzero_div-result c = omega (arith, ranged _ c.requires)

pub overflow_mul-result : goal.overflow_mul-result
overflow_mul-result c = omega (arith, ranged _ c.requires)

pub overflow_sub-result-2 : goal.overflow_sub-result-2
overflow_sub-result-2 c = omega (arith, ranged _ c.requires)

pub returns : goal.returns
unfolding tied pages frames per_region
returns c =
    let p = c.args.p in
    rw (le-leb (p.alpha * (p.beta * p.d)) 256 c.if-pages-gt256.false)
