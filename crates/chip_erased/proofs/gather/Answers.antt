-- `chip_erased::gather`: the row by its eight words.
-- Assumes nothing.
use native.Mathlib.Omega.{arith}
use Rattle.chip_erased.proofs.Rows.{row_full}
use Rattle.chip_erased.proofs.gather.Goals as goal

pub word-requires-8 : goal.word-requires-8
word-requires-8 c = omega (arith, c.requires)

pub returns : goal.returns
returns c =
    row_full c.args.row.now c.args.w _ _ _ _ _ _ _ _ c.requires (λ i. omega (arith, c.shared_slice_known-1.given i)) c.struct_known-8-1.given
    c.word.ensures c.word-2.ensures c.word-3.ensures c.word-4.ensures c.word-5.ensures c.word-6.ensures c.word-7.ensures c.word-8.ensures
