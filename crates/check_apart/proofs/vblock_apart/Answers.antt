-- `check_apart::vblock_apart`: no block, so no frame; else the block's frames.
-- Assumes nothing.
use mathlib.Core.Path.{◌∙◌}
use native.Mathlib.Omega.{arith}
use Rattle.rules.specs.Tables.{bt_entry}
use Rattle.check_apart.proofs.Turns.{block_none}
use Rattle.check_apart.proofs.Whole.{body_some, kept_low, row_in}
use Rattle.check_apart.proofs.vblock_apart.Goals as goal

pub entry_named-requires : goal.entry_named-requires
entry_named-requires c = row_in _ _ c.args.kept.now c.requires.asked _ c.requires.v_lt_gamma

pub returns-in_default : goal.returns-in_default
unfolding bt_entry
returns-in_default c = block_none _ _ _ _ _ c.in_default.ensures c.requires.seen

pub block_of-requires-clause-n_lt_n : goal.block_of-requires-clause-n_lt_n
unfolding bt_entry
block_of-requires-clause-n_lt_n c = kept_low _ _ _ c.requires.asked _ c.requires.v_lt_gamma _ c.in-Some.ensures.0 (λ q. omega (arith, c.in-Some.ensures.1, q))

pub block_apart-requires-clause-blk_value : goal.block_apart-requires-clause-blk_value
unfolding bt_entry
block_apart-requires-clause-blk_value c =
    c.block_of.ensures.result_value ∙ body_some c.args.p c.args.chip.now c.args.kept.now c.args.v.0 _ c.in-Some.ensures.0 (λ q. omega (arith, c.in-Some.ensures.1, q))
