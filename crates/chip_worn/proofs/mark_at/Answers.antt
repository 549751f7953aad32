-- `chip_worn::mark_at`: the byte that it stores is the one that a mark changes on an erased page.
-- Assumes nothing.
use native.Mathlib.Nat.{lt_of_le_of_lt}
use native.Mathlib.Omega.{arith}
use Rattle.rules.proofs.Sizes.{sizes}
use Rattle.chip_worn.proofs.Erased.{block_low_lem, byte_low, mark_is}
use Rattle.chip_worn.proofs.mark_at.Goals as goal

pub overflow_mul-i : goal.overflow_mul-i
overflow_mul-i c = record { fits = lt_of_le_of_lt (block_low_lem _ c.requires.p_value c.args.chip.now _ c.requires.chip_len c.requires.n_lt_n _ c.block_bytes-w.ensures) (omega arith) }

pub overflow_add-i : goal.overflow_add-i
overflow_add-i c = omega (arith, (sizes _ c.requires.p_value).s_high)

pub overflow_add-i-2 : goal.overflow_add-i-2
overflow_add-i-2 c = omega (arith, (sizes _ c.requires.p_value).s_high, block_low_lem _ c.requires.p_value c.args.chip.now _ c.requires.chip_len c.requires.n_lt_n _ c.block_bytes-w.ensures)

pub bounds-chip-i : goal.bounds-chip-i
bounds-chip-i c = byte_low _ c.requires.p_value c.args.chip.now _ c.requires.chip_len c.requires.n_lt_n _ c.block_bytes-w.ensures

pub returns : goal.returns
returns c = mark_is _ c.requires.p_value c.args.chip.now _ c.requires.chip_len c.requires.n_lt_n _ c.block_bytes-w.ensures c.requires.n_value
