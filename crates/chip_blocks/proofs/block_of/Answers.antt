-- `chip_blocks::block_of`: the part that is lent is the block.
-- Assumes nothing.
use mathlib.Core.Path.{◌∙◌, ◌≡◌}
use Prim.Native.Nat.{◌*◌, ◌+◌, ℕ, ◌≤◌}
use native.Mathlib.Omega.{arith}
use lib.ListN.{length}
use Rattle.rules.specs.Parameters.{block_bytes}
use Rattle.loops.proofs.Lent.{lent_length}
use Rattle.chip_blocks.proofs.Frames.{block_in, block_lent}
use Rattle.chip_blocks.proofs.block_of.Goals as goal
use Rattle.chip_blocks.proofs.block_of.Goals.{Start}

end : (a : Start) (w : ℕ) → w ≡ block_bytes a.args.p → a.args.n.0 * w + w ≤ length a.args.chip.now
end a w e = block_in a.args.p a.args.chip.now a.args.n.0 w e a.requires.chip_len a.requires.n_lt_n

pub overflow_mul-a : goal.overflow_mul-a
overflow_mul-a c = omega (arith, end (goal.at.overflow_mul-a c).Start c.block_bytes-w.result c.block_bytes-w.ensures)

pub overflow_add-b : goal.overflow_add-b
overflow_add-b c = omega (arith, end (goal.at.overflow_add-b c).Start c.block_bytes-w.result c.block_bytes-w.ensures)

pub slice_bounds-result-end : goal.slice_bounds-result-end
slice_bounds-result-end c = omega (arith, end (goal.at.slice_bounds-result-end c).Start c.block_bytes-w.result c.block_bytes-w.ensures)

pub returns : goal.returns
returns c =
    let a = c.args in
    record {
      result_value = block_lent a.p a.chip.now a.n.0 c.block_bytes-w.result c.block_bytes-w.ensures;
      result_len = lent_length c.block_bytes-w.result a.n.0 a.chip.now (end (goal.at.returns c).Start c.block_bytes-w.result c.block_bytes-w.ensures) ∙ c.block_bytes-w.ensures;
    }
