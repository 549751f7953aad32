-- `start_marks::mark_entry`: without a block there is no mark to set; with one, those of all its frames.
-- Assumes nothing.
use mathlib.Core.Path.{refl}
use native.Mathlib.Omega.{arith}
use Rattle.start_marks.proofs.Turns.{asks, block_low_lem, divisor, in_bt, with_block, without}
use Rattle.start_marks.proofs.mark_entry.Goals as goal

pub entry_named-requires : goal.entry_named-requires
entry_named-requires c = in_bt _ _ _ _ _ _ c.requires

pub returns-in_default : goal.returns-in_default
returns-in_default c = without _ _ _ _ _ _ c.requires _ refl c.in_default.ensures

pub nonzero_div-r : goal.nonzero_div-r
nonzero_div-r c = omega (arith, divisor _ _ _ _ _ _ c.requires)

pub nonzero_rem-v : goal.nonzero_rem-v
nonzero_rem-v c = omega (arith, divisor _ _ _ _ _ _ c.requires)

pub block_of-requires : goal.block_of-requires
block_of-requires c =
    let a = c.requires in
    let named = c.in-Some.ensures in
    record {
      p_value = a.found.fine;
      chip_len = a.found.chip_length;
      n_lt_n = block_low_lem _ _ _ _ _ _ a _ named.0 (λ e. omega (arith, named.1, e));
    }

pub mark_block-requires : goal.mark_block-requires
mark_block-requires c =
    let named = c.in-Some.ensures in
    let both = asks _ _ _ _ _ _ c.requires _ named.0 (λ e. omega (arith, named.1, e)) _ c.block_of.ensures.result_value c.block_of.ensures.result_len in
    record { one_block = both.0; words_asked = both.1 }

pub returns : goal.returns
returns c =
    let named = c.in-Some.ensures in
    with_block _ _ _ _ _ _ c.requires _ named.0 (λ e. omega (arith, named.1, e)) _ c.block_of.ensures.result_value _ c.mark_block.ensures
