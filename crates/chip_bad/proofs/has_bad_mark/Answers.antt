-- `chip_bad::has_bad_mark`: the byte that it reads is the page's mark.
-- Assumes nothing.
use mathlib.Core.Path.{sym}
use native.Mathlib.Nat.{lt_of_le_of_lt}
use native.Mathlib.Omega.{arith}
use Rattle.rules.proofs.Sizes.{sizes}
use Rattle.chip_bad.proofs.Marks.{block_low_lem, place_low, mark_low, mark_is}
use Rattle.chip_bad.proofs.has_bad_mark.Goals as goal

pub overflow_mul-i : goal.overflow_mul-i
overflow_mul-i c =
    record {
      fits = lt_of_le_of_lt (block_low_lem c.args.p c.args.chip.now c.args.n.0 c.args.j c.requires.p_value c.requires.chip_len c.requires.n_lt_n
          c.requires.j_bound _ _ c.block_bytes-w.ensures c.page_bytes-q.ensures) (omega arith);
    }

pub overflow_mul-i-2 : goal.overflow_mul-i-2
overflow_mul-i-2 c =
    record {
      fits = lt_of_le_of_lt (place_low c.args.p c.args.chip.now c.args.n.0 c.args.j c.requires.p_value c.requires.chip_len c.requires.n_lt_n
          c.requires.j_bound _ _ c.block_bytes-w.ensures c.page_bytes-q.ensures) (omega arith);
    }

pub overflow_add-i : goal.overflow_add-i
overflow_add-i c = omega (arith, (sizes c.args.p c.requires.p_value).s_high)

pub overflow_add-i-2 : goal.overflow_add-i-2
overflow_add-i-2 c =
    omega (
      arith,
      place_low c.args.p c.args.chip.now c.args.n.0 c.args.j c.requires.p_value c.requires.chip_len c.requires.n_lt_n c.requires.j_bound _ _
          c.block_bytes-w.ensures c.page_bytes-q.ensures,
      (sizes c.args.p c.requires.p_value).s_high,
    )

pub overflow_add-i-3 : goal.overflow_add-i-3
overflow_add-i-3 c =
    omega (
      arith,
      block_low_lem c.args.p c.args.chip.now c.args.n.0 c.args.j c.requires.p_value c.requires.chip_len c.requires.n_lt_n c.requires.j_bound _ _
          c.block_bytes-w.ensures c.page_bytes-q.ensures,
      place_low c.args.p c.args.chip.now c.args.n.0 c.args.j c.requires.p_value
          c.requires.chip_len c.requires.n_lt_n c.requires.j_bound _ _ c.block_bytes-w.ensures c.page_bytes-q.ensures,
      (sizes c.args.p c.requires.p_value).s_high,
    )

pub bounds-chip-i : goal.bounds-chip-i
bounds-chip-i c =
    mark_low c.args.p c.args.chip.now c.args.n.0 c.args.j c.requires.p_value c.requires.chip_len c.requires.n_lt_n c.requires.j_bound _ _
    c.block_bytes-w.ensures c.page_bytes-q.ensures

pub returns : goal.returns
returns c =
    sym (mark_is c.args.p c.args.chip.now c.args.n.0 c.args.j c.requires.p_value c.requires.chip_len c.requires.n_lt_n c.requires.j_bound _ _
    c.block_bytes-w.ensures c.page_bytes-q.ensures)
