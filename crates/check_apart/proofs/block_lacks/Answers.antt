-- `check_apart::block_lacks`: no block, so no frame; else the block's frames.
-- Assumes nothing.
use native.Mathlib.Omega.{arith}
use Rattle.rules.specs.Tables.{bt_entry}
use Rattle.check_apart.proofs.Whole.{body_some, kept_low, none_lacks, row_in}
use Rattle.check_apart.proofs.block_lacks.Goals as goal

pub entry_named-requires : goal.entry_named-requires
entry_named-requires c = row_in _ _ c.args.kept.now c.requires.asked _ c.requires.v_lt_gamma

pub returns-in_default : goal.returns-in_default
unfolding bt_entry
returns-in_default c = none_lacks _ _ _ _ c.in_default.ensures _ _

pub block_of-requires-clause-n_lt_n : goal.block_of-requires-clause-n_lt_n
unfolding bt_entry
block_of-requires-clause-n_lt_n c = kept_low _ _ _ c.requires.asked _ c.requires.v_lt_gamma _ c.in-Some.ensures.0 (λ q. omega (arith, c.in-Some.ensures.1, q))

pub returns : goal.returns
unfolding bt_entry
returns c =
    let a = c.args in
    rw (
      ← c.frames.ensures,
      ← (body_some a.p a.chip.now a.kept.now a.v.0 _ c.in-Some.ensures.0 (λ q. omega (arith, c.in-Some.ensures.1, q))),
      ← c.block_of.ensures.result_value,
    ) c.lacks.ensures
