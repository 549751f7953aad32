-- `chip_blocks::rest_erased`: the bytes of the frames from frame k on.
-- Assumes nothing.
use mathlib.Core.Path.{ap, ◌∙◌}
use native.Mathlib.Omega.{arith}
use Rattle.lists.specs.Parts.{all_are}
use Rattle.rules.proofs.Sizes.{sizes}
use Rattle.chip_blocks.proofs.Frames.{rest_lent, rest_starts}
use Rattle.chip_blocks.proofs.rest_erased.Goals as goal

pub overflow_mul-a : goal.overflow_mul-a
overflow_mul-a c =
    omega (
      arith,
      (sizes _ c.requires.p_value).block_high,
      c.requires.blk_len,
      rest_starts c.args.p c.args.blk.now c.args.k c.frame_bytes-w.result c.requires.k_bound c.requires.blk_len c.frame_bytes-w.ensures,
    )

pub slice_bounds-is_erased-count : goal.slice_bounds-is_erased-count
slice_bounds-is_erased-count c = rest_starts c.args.p c.args.blk.now c.args.k c.frame_bytes-w.result c.requires.k_bound c.requires.blk_len c.frame_bytes-w.ensures

pub slice_bounds-is_erased-start : goal.slice_bounds-is_erased-start
slice_bounds-is_erased-start c = omega (arith, rest_starts c.args.p c.args.blk.now c.args.k c.frame_bytes-w.result c.requires.k_bound c.requires.blk_len c.frame_bytes-w.ensures)

pub returns : goal.returns
returns c =
    c.is_erased.ensures
    ∙ ap (all_are 255) (rest_lent c.args.p c.args.blk.now c.args.k c.frame_bytes-w.result c.requires.k_bound c.requires.blk_len c.frame_bytes-w.ensures)
