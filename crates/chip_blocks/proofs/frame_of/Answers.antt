-- `chip_blocks::frame_of`: the part that is lent is the frame.
-- Assumes nothing.
use mathlib.Core.Path.{◌∙◌, ◌≡◌}
use Prim.Native.Nat.{◌*◌, ◌+◌, ℕ, ◌≤◌}
use native.Mathlib.Omega.{arith}
use lib.ListN.{length}
use Rattle.rules.specs.Parameters.{frame_bytes}
use Rattle.loops.proofs.Lent.{lent_length}
use Rattle.chip_blocks.proofs.Frames.{frame_in_lem, frame_lent}
use Rattle.chip_blocks.proofs.frame_of.Goals as goal
use Rattle.chip_blocks.proofs.frame_of.Goals.{Start}

end : (a : Start) (w : ℕ) → w ≡ frame_bytes a.args.p → a.args.f * w + w ≤ length a.args.blk.now
end a w e = frame_in_lem a.args.p a.args.f w (length a.args.blk.now) e a.requires.blk_len a.requires.f_bound

pub overflow_mul-a : goal.overflow_mul-a
overflow_mul-a c = omega (arith, end (goal.at.overflow_mul-a c).Start c.frame_bytes-w.result c.frame_bytes-w.ensures)

pub overflow_add-b : goal.overflow_add-b
overflow_add-b c = omega (arith, end (goal.at.overflow_add-b c).Start c.frame_bytes-w.result c.frame_bytes-w.ensures)

pub slice_bounds-result-end : goal.slice_bounds-result-end
slice_bounds-result-end c = omega (arith, end (goal.at.slice_bounds-result-end c).Start c.frame_bytes-w.result c.frame_bytes-w.ensures)

pub returns : goal.returns
returns c =
    let a = c.args in
    record {
      result_value = frame_lent a.p a.blk.now a.f c.frame_bytes-w.result c.frame_bytes-w.ensures;
      result_len = lent_length c.frame_bytes-w.result a.f a.blk.now (end (goal.at.returns c).Start c.frame_bytes-w.result c.frame_bytes-w.ensures) ∙ c.frame_bytes-w.ensures;
    }
