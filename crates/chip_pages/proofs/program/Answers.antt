-- `chip_pages::program`: the bytes, then the spare area, which is erased still.
-- Assumes nothing.
use mathlib.Core.Path.{ap, refl, ◌∙◌}
use Prim.Native.Nat.{◌+◌, ℕ}
use native.Mathlib.Omega.{arith}
use lib.ListN.{length, length-replicate}
use Rattle.chip_pages.proofs.Places.{page_done, put_erased, spare_left}
use Rattle.chip_pages.proofs.program.Goals as goal

pub put-requires : goal.put-requires
put-requires c = omega (arith, ap length c.requires ∙ length-replicate {A = ℕ} (length c.args.bytes.now + 16) 255)

pub slice_bounds-put_spare-count : goal.slice_bounds-put_spare-count
slice_bounds-put_spare-count c = omega (arith, c.put.auto.part, ap length c.requires ∙ length-replicate {A = ℕ} (length c.args.bytes.now + 16) 255)

pub slice_bounds-put_spare-start : goal.slice_bounds-put_spare-start
slice_bounds-put_spare-start c = omega (arith, c.put.auto.part, ap length c.requires ∙ length-replicate {A = ℕ} (length c.args.bytes.now + 16) 255)

pub put_spare-requires : goal.put_spare-requires
put_spare-requires c = spare_left c.args.bytes.now _ _ refl (put_erased c.args.bytes.now c.args.page.now _ c.requires c.put.ensures)

pub returns : goal.returns
returns c = rw c.put_spare.ensures (page_done c.args.bytes.now _ _ refl (put_erased c.args.bytes.now c.args.page.now _ c.requires c.put.ensures) _)
