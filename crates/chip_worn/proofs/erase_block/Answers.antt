-- `chip_worn::erase_block`: one of two outcomes, by the wear at entry.
-- Assumes nothing.
use mathlib.Core.Path.{sym, ◌∙◌}
use Rattle.chip_worn.proofs.Erased.{cleared_first, cleared_long, left_blank, left_marked}
use Rattle.chip_worn.proofs.erase_block.Goals as goal

pub mark_at-requires : goal.mark_at-requires
mark_at-requires c =
    let x = c.clear_block.ensures.chip_after in
    record {
      p_value = c.requires.p_value;
      chip_len = cleared_long _ c.requires.p_value c.args.chip.now _ c.requires.chip_len c.requires.n_lt_n _ x;
      n_lt_n = c.requires.n_lt_n;
      n_value = cleared_first _ c.requires.p_value c.args.chip.now _ c.requires.chip_len c.requires.n_lt_n _ x;
    }

pub returns-then-out : goal.returns-then-out
returns-then-out c =
    let t = sym c.wears_out-out.ensures ∙ c.if-out.true in
    record {
      chip_after = left_marked _ c.requires.p_value c.args.chip.now _ c.requires.chip_len c.requires.n_lt_n _ c.clear_block.ensures.chip_after _ t _ c.mark_at.ensures;
      wear_after = c.clear_block.ensures.wear_after;
      value = c.wears_out-out.ensures;
    }

pub returns-else-out : goal.returns-else-out
returns-else-out c =
    let t = sym c.wears_out-out.ensures ∙ c.if-out.false in
    record {
      chip_after = left_blank _ c.requires.p_value c.args.chip.now _ c.requires.chip_len c.requires.n_lt_n _ c.clear_block.ensures.chip_after _ t;
      wear_after = c.clear_block.ensures.wear_after;
      value = c.wears_out-out.ensures;
    }
