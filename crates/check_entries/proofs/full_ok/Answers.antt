-- `check_entries::full_ok`: test by test.
-- Assumes nothing.
use Rattle.check_rules.specs.Check.{full_ok}
use Rattle.check_blocks.proofs.Blocks.{named_low, not_none}
use Rattle.check_entries.proofs.full_ok.Goals as goal

pub returns-then-eq : goal.returns-then-eq
unfolding full_ok
returns-then-eq c = rw (← c.eq.ensures, c.if-eq.true)

pub returns-in_default : goal.returns-in_default
unfolding full_ok
returns-in_default c = rw (← c.eq.ensures, c.if-eq.false, c.in_default.ensures)

pub block_of-requires-clause-n_lt_n : goal.block_of-requires-clause-n_lt_n
block_of-requires-clause-n_lt_n c =
    named_low c.args.p c.args.chip.now c.args.bt.now c.requires.lent c.args.r c.args.v.0 c.in-Some.n.0 c.requires.r_lt_mu c.requires.v_lt_gamma c.in-Some.ensures.0 c.in-Some.ensures.1

pub returns : goal.returns
unfolding full_ok
returns c = rw (← c.eq.ensures, c.if-eq.false, ← c.in-Some.ensures.0, not_none c.in-Some.n.0 c.in-Some.ensures.1, ← c.block_of.ensures.result_value) c.is_full.ensures
