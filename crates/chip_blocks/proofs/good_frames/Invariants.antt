-- `chip_blocks::good_frames`: every frame passed fits.
use Rattle.std.proofs.Common.{◌≡◌, true}
use Rattle.lists.specs.Below.{all_below}
use Rattle.rules.specs.Pages.{frame}
use Rattle.chip_blocks.specs.First.{fit_frame}
use Rattle.chip_blocks.proofs.good_frames.Given as goal

abbrev pub invariant-loop-f : goal.invariant-loop-f
invariant-loop-f l = all_below l.f (λ i. fit_frame l.p l.r l.v.0 l.last (frame l.p l.blk i)) ≡ true
