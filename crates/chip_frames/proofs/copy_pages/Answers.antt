-- `chip_frames::copy_pages`. The invariant: the chip is the one at entry with the first k pages of frame `from` put at frame `to`, which are apart.
-- Assumes nothing.
use mathlib.Core.Path.{◌≡◌, refl}
use native.Mathlib.Omega.{arith}
use Rattle.chip_frames.specs.Frame.{first_pages}
use Rattle.chip_frames.proofs.Run.{low, low_page, copy_asked, copy_done}
use Rattle.chip_frames.proofs.copy_pages.Goals as goal

pub overflow_mul-x : goal.overflow_mul-x
overflow_mul-x c = omega (arith, low _ _ _ _ _ c.requires.frame_asked c.args.from c.requires.frame_asked.source)

pub overflow_mul-y : goal.overflow_mul-y
overflow_mul-y c = omega (arith, low _ _ _ _ _ c.requires.frame_asked c.args.to c.requires.frame_asked.fits)

pub loop-k-init : goal.loop-k-init
unfolding first_pages
loop-k-init c = refl

pub overflow_add-x : goal.overflow_add-x
overflow_add-x c = omega (arith, low_page _ _ _ _ _ c.requires.frame_asked c.args.from c.loop-k.k c.requires.frame_asked.source (omega arith))

pub overflow_add-y : goal.overflow_add-y
overflow_add-y c = omega (arith, low_page _ _ _ _ _ c.requires.frame_asked c.args.to c.loop-k.k c.requires.frame_asked.fits (omega arith))

pub copy_at-requires : goal.copy_at-requires
copy_at-requires c = copy_asked _ _ _ _ _ c.requires.frame_asked _ _ (omega arith) c.loop-k.invariant

pub loop-k-preserved : goal.loop-k-preserved
loop-k-preserved c = copy_done _ _ _ _ _ c.requires.frame_asked _ _ _ (omega arith) c.loop-k.invariant c.copy_at.ensures

pub returns : goal.returns
returns c =
    let e : c.loop-k.k ≡ c.args.m = omega arith in
    rw e at c.loop-k.invariant
