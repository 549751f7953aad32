-- `chip_pages::program_blank`: the spare area alone.
-- Assumes nothing.
use mathlib.Core.Path.{ap, ◌∙◌}
use Prim.Native.Nat.{◌+◌, ℕ}
use native.Mathlib.Omega.{arith}
use lib.ListN.{length, length-replicate, replicate}
use Rattle.chip_pages.proofs.Places.{erased_split, page_done, spare_left}
use Rattle.chip_pages.proofs.program_blank.Goals as goal

pub slice_bounds-put_spare-count : goal.slice_bounds-put_spare-count
slice_bounds-put_spare-count c = omega (arith, ap length c.requires ∙ length-replicate {A = ℕ} (c.args.s + 16) 255)

pub slice_bounds-put_spare-start : goal.slice_bounds-put_spare-start
slice_bounds-put_spare-start c = omega (arith, ap length c.requires ∙ length-replicate {A = ℕ} (c.args.s + 16) 255)

pub put_spare-requires : goal.put_spare-requires
put_spare-requires c = spare_left (replicate c.args.s 255) c.args.page.now c.args.s (length-replicate _ _) (c.requires ∙ erased_split c.args.s)

pub returns : goal.returns
returns c = rw c.put_spare.ensures (page_done (replicate c.args.s 255) c.args.page.now c.args.s (length-replicate _ _) (c.requires ∙ erased_split c.args.s) _)
