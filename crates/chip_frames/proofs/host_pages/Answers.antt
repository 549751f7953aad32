-- `chip_frames::host_pages`. The invariant: the chip is the one at entry with the first k pages of the host's frame put at frame `to`; a page that is still to be
-- read is not one of those, so that it is read as it was.
-- Assumes nothing.
use mathlib.Core.Path.{◌≡◌, refl}
use native.Mathlib.Omega.{arith}
use Rattle.chip_frames.specs.Frame.{first_pages}
use Rattle.chip_frames.proofs.Host.{low, low_page, page_asked, page_done}
use Rattle.chip_frames.proofs.host_pages.Goals as goal

pub overflow_mul-x : goal.overflow_mul-x
overflow_mul-x c = omega (arith, low _ _ _ _ _ _ _ _ _ c.requires.host_asked 0 0 0 c.args.old c.requires.host_asked.source)

pub overflow_mul-y : goal.overflow_mul-y
overflow_mul-y c = omega (arith, low _ _ _ _ _ _ _ _ _ c.requires.host_asked 0 0 0 c.args.to c.requires.host_asked.fits)

pub loop-k-init : goal.loop-k-init
unfolding first_pages
loop-k-init c = refl

pub overflow_add-y : goal.overflow_add-y
overflow_add-y c = omega (arith, low_page _ _ _ _ _ _ _ _ _ c.requires.host_asked 0 0 0 c.args.to c.loop-k.k c.requires.host_asked.fits (omega arith))

pub overflow_add-x : goal.overflow_add-x
overflow_add-x c = omega (arith, low_page _ _ _ _ _ _ _ _ _ c.requires.host_asked 0 0 0 c.args.old c.loop-k.k c.requires.host_asked.source (omega arith))

pub host_page-requires : goal.host_page-requires
host_page-requires c = page_asked _ _ _ _ _ _ _ _ _ c.requires.host_asked _ _ _ _ _ (omega arith) c.loop-k.invariant

pub loop-k-preserved : goal.loop-k-preserved
loop-k-preserved c = page_done _ _ _ _ _ _ _ _ _ c.requires.host_asked _ _ _ _ _ _ (omega arith) c.loop-k.invariant c.host_page.ensures

pub returns : goal.returns
returns c =
    let e : c.loop-k.k ≡ c.args.m = omega arith in
    rw e at c.loop-k.invariant
