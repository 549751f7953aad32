-- `check_blocks::vblock_frames`: test by test.
-- Assumes nothing.
use mathlib.Core.Path.{◌∙◌}
use native.Mathlib.Omega.{arith}
use borrow.Author.Tests.{eq-eqb, ne_eqb}
use Rattle.check_rules.specs.Check.{vblock_frames, vblock_frames_to, vblock_ok, vblock_stamps}
use Rattle.check_blocks.proofs.Blocks.{both_counted, named_low, none_counted, not_none}
use Rattle.check_blocks.proofs.vblock_frames.Goals as goal

pub returns-in_default : goal.returns-in_default
unfolding vblock_frames_to vblock_frames vblock_stamps vblock_ok
returns-in_default c = rw c.in_default.ensures c.frames.ensures

pub returns-then-not-differs : goal.returns-then-not-differs
unfolding vblock_frames_to vblock_frames vblock_stamps vblock_ok
returns-then-not-differs c = rw (← c.in-Some.ensures.0, not_none c.in-Some.n.0 c.in-Some.ensures.1, ← c.differs.ensures, c.if-not-differs.true) (none_counted _ _ _)

pub bst_at-requires : goal.bst_at-requires
bst_at-requires c =
    let l = named_low c.args.p c.args.chip.now c.args.bt.now c.requires.lent c.args.r c.args.v.0 c.in-Some.n.0 c.requires.r_lt_mu c.requires.v_lt_gamma c.in-Some.ensures.0 c.in-Some.ensures.1 in
    omega (arith, l, c.requires.bst_len)

pub returns-then-bst_at-ne-USED : goal.returns-then-bst_at-ne-USED
unfolding vblock_frames_to vblock_frames vblock_stamps vblock_ok
returns-then-bst_at-ne-USED c =
    rw (← c.in-Some.ensures.0, not_none c.in-Some.n.0 c.in-Some.ensures.1, ← c.differs.ensures, c.if-not-differs.false, ← c.bst_at.ensures, ne_eqb _ 1 c.if-bst_at-ne-USED.true)
    (none_counted _ _ _)

pub block_of-requires-clause-n_lt_n : goal.block_of-requires-clause-n_lt_n
block_of-requires-clause-n_lt_n c =
    named_low c.args.p c.args.chip.now c.args.bt.now c.requires.lent c.args.r c.args.v.0 c.in-Some.n.0 c.requires.r_lt_mu c.requires.v_lt_gamma c.in-Some.ensures.0 c.in-Some.ensures.1

pub returns : goal.returns
unfolding vblock_frames_to vblock_frames vblock_stamps vblock_ok
returns c =
    rw (
      ← c.in-Some.ensures.0,
      not_none c.in-Some.n.0 c.in-Some.ensures.1,
      ← c.differs.ensures,
      c.if-not-differs.false,
      ← c.bst_at.ensures,
      eq-eqb _ 1 c.if-bst_at-ne-USED.false,
      ← c.block_of.ensures.result_value,
    )
    (c.used_frames.ensures ∙ both_counted _ _ _ _ _)
