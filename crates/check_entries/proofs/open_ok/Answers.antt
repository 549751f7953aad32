-- `check_entries::open_ok`: test by test.
-- Assumes nothing.
use native.Mathlib.Omega.{arith}
use lib.Dec.{eqb}
use borrow.Author.Tests.{le-ltb, lt-ltb, not-false, not-true}
use Rattle.rules.proofs.RegionFacts.{filled_le}
use Rattle.rules.proofs.Sizes.{sizes}
use Rattle.check_rules.specs.Check.{open_ok}
use Rattle.check_blocks.proofs.Blocks.{named_low, not_none, vblock_low_lem}
use Rattle.check_entries.proofs.open_ok.Goals as goal

pub overflow_mul-p : goal.overflow_mul-p
overflow_mul-p c = let z = sizes _ c.requires.lent.fine in omega (arith, z.few)

pub returns-then-sg-p : goal.returns-then-sg-p
unfolding open_ok
returns-then-sg-p c = rw (le-ltb _ _ c.if-sg-p.true)

pub vblock_of-o-requires-clause-sg_bound : goal.vblock_of-o-requires-clause-sg_bound
vblock_of-o-requires-clause-sg_bound c = let z = sizes _ c.requires.lent.fine in omega (arith, c.if-sg-p.false, z.few)

pub returns-in_default : goal.returns-in_default
unfolding open_ok
returns-in_default c = rw (lt-ltb _ _ c.if-sg-p.false, ← c.vblock_of-o.ensures, c.in_default.ensures)

pub block_of-requires-clause-n_lt_n : goal.block_of-requires-clause-n_lt_n
block_of-requires-clause-n_lt_n c =
    named_low c.args.p c.args.chip.now c.args.bt.now c.requires.lent c.args.r _ c.in-Some.n.0 c.requires.r_lt_mu
    (rw c.vblock_of-o.ensures (vblock_low_lem _ _ _ (sizes _ c.requires.lent.fine).segments c.if-sg-p.false)) c.in-Some.ensures.0 c.in-Some.ensures.1

pub segment_of-last-requires-clause-f_bound : goal.segment_of-last-requires-clause-f_bound
segment_of-last-requires-clause-f_bound c =
    let z = sizes _ c.requires.lent.fine in
    omega (arith, c.saturating_sub.ensures, c.filled-k.ensures, filled_le c.args.p c.block_of.result.now, z.short)

pub returns-then-ne : goal.returns-then-ne
unfolding open_ok
returns-then-ne c =
    rw (
      lt-ltb _ _ c.if-sg-p.false,
      ← c.vblock_of-o.ensures,
      ← c.in-Some.ensures.0,
      not_none c.in-Some.n.0 c.in-Some.ensures.1,
      ← c.block_of.ensures.result_value,
      ← c.filled-k.ensures,
      ← c.saturating_sub.ensures,
      ← c.segment_of-last.ensures,
      not-true (eqb c.args.sg.0 c.segment_of-last.result.0) (rw (← c.ne.ensures) c.if-ne.true),
    )

pub returns : goal.returns
unfolding open_ok
returns c =
    rw (
      lt-ltb _ _ c.if-sg-p.false,
      ← c.vblock_of-o.ensures,
      ← c.in-Some.ensures.0,
      not_none c.in-Some.n.0 c.in-Some.ensures.1,
      ← c.block_of.ensures.result_value,
      ← c.filled-k.ensures,
      ← c.saturating_sub.ensures,
      ← c.segment_of-last.ensures,
      not-false (eqb c.args.sg.0 c.segment_of-last.result.0) (rw (← c.ne.ensures) c.if-ne.false),
    )
    c.fulls_ok.ensures
