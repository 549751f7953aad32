-- `start_blocks::name_open`: by what the block's head says, and by the entry that it names.
-- Assumes nothing.
use mathlib.Core.Path.{◌∙◌}
use Rattle.std.proofs.Common.{rules, tests}
use Rattle.rules.proofs.TableFacts.{chip_size}
use Rattle.start_blocks.proofs.Heads.{number_low, open_erased, open_full, open_named, open_unused}
use Rattle.start_blocks.proofs.name_open.Goals as goal

pub returns-in_default : goal.returns-in_default
returns-in_default c = open_unused _ _ _ _ c.requires.block_asked _ c.in_default.ensures

pub returns-then-h : goal.returns-then-h
returns-then-h c = open_full _ _ _ _ _ c.in-Some.ensures _ c.if-h.true

pub set_bt-requires-clause-n_bound : goal.set_bt-requires-clause-n_bound
set_bt-requires-clause-n_bound c = number_low _ _ _ _ c.requires.block_asked

pub returns-then-is_none : goal.returns-then-is_none
returns-then-is_none c = open_named _ _ _ _ _ c.in-Some.ensures _ c.if-h.false (search (rules, tests)) _ c.set_bt.ensures

pub erase_block-requires : goal.erase_block-requires
erase_block-requires c =
    let a = c.requires.block_asked in
    record {
      p_value = a.fine;
      chip_len = a.chip_length ∙ chip_size c.args.p;
      wear_len = c.requires.wear_len;
      n_lt_n = a.low;
    }

pub returns : goal.returns
returns c = open_erased _ _ _ _ _ c.in-Some.ensures _ c.if-h.false (λ e. search (rules, tests)) _ _ c.erase_block.ensures.chip_after c.erase_block.ensures.wear_after
