-- `check_broken::block_ok`: by whether BT has a block.
-- Assumes nothing.
use Rattle.check_blocks.proofs.Blocks.{named_low, not_none}
use Rattle.check_broken.specs.Tests.{block_ok}
use Rattle.check_broken.proofs.block_ok.Goals as goal

pub returns-in_default : goal.returns-in_default
unfolding block_ok
returns-in_default c = rw c.in_default.ensures

pub block_of-requires-clause-n_lt_n : goal.block_of-requires-clause-n_lt_n
block_of-requires-clause-n_lt_n c =
    named_low c.args.p c.args.chip.now c.args.bt.now c.requires.lent c.args.r c.args.v.0 c.in-Some.n.0 c.requires.r_lt_mu c.requires.v_lt_gamma c.in-Some.ensures.0 c.in-Some.ensures.1

pub returns : goal.returns
unfolding block_ok
returns c = rw (← c.in-Some.ensures.0, not_none c.in-Some.n.0 c.in-Some.ensures.1, ← c.block_of.ensures.result_value) c.block_ok.ensures
