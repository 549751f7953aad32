-- Where a page's bad mark stands on the chip.
-- Assumes nothing.
use mathlib.Core.Path.{◌≡◌}
use mathlib.Core.Bool.{true, not}
use mathlib.Core.List.{List}
use Prim.Native.Nat.{ℕ, ◌+◌, ◌*◌, ◌≤◌, ◌<◌}
use native.Mathlib.Omega.{arith}
use lib.Dec.{eqb}
use lib.ListN.{length, get_or}
use lib.Seq.{get_or-take, get_or-drop}
use Rattle.lists.specs.Parts.{part}
use Rattle.lists.proofs.Parts.{next}
use Rattle.rules.specs.declared.Params.{Params}
use Rattle.rules.specs.Parameters.{frames, pages, page_bytes, frame_bytes, block_bytes, allowed}
use Rattle.rules.specs.Pages.{block, page, spare}
use Rattle.rules.specs.Format.{bad_mark}
use Rattle.rules.proofs.Sizes.{Sizes, sizes}

-- a block has a first page
pub first_low : (p : Params) → allowed p ≡ true → 0 < pages p
unfolding pages
first_low p a = omega (arith, next (frames p) 0 p.alpha (sizes p a).sectors, (sizes p a).some)

module _ (p : Params) (chip : List ℕ) (n j : ℕ) (fine : allowed p ≡ true) (size : length chip ≡ p.N * block_bytes p) (low : n < p.N) (page-low : j < pages p) where
  z : Sizes p
  z = sizes p fine

  -- the pages of a block are its bytes
  block_pages : block_bytes p ≡ pages p * page_bytes p
  unfolding block_bytes pages frame_bytes
  block_pages = omega arith

  page_fits : j * page_bytes p + page_bytes p ≤ block_bytes p
  page_fits = rw block_pages (next (page_bytes p) j (pages p) page-low)

  in_page : p.s + 5 < page_bytes p
  unfolding page_bytes
  in_page = omega arith

  block_fits : n * block_bytes p + block_bytes p ≤ length chip
  block_fits = rw size (next (block_bytes p) n p.N low)

  -- over the widths that the code has
  module _ (w q : ℕ) (w-is : w ≡ block_bytes p) (q-is : q ≡ page_bytes p) where
    pub block_low_lem : n * w ≤ 8858234880
    block_low_lem = rw w-is (omega (arith, block_fits, size, z.chip_high))

    pub place_low : j * q ≤ 135168
    place_low = rw q-is (omega (arith, page_fits, z.block_high))

    pub mark_low : n * w + (j * q + (p.s + 5)) < length chip
    mark_low = rw (w-is, q-is) (omega (arith, in_page, page_fits, block_fits))

    pub mark_is : bad_mark p chip n j ≡ not (eqb (get_or chip (n * w + (j * q + (p.s + 5))) 0) 255)
    unfolding bad_mark spare page block part
    mark_is =
        let b : j * page_bytes p + (p.s + 5) < block_bytes p = omega (arith, in_page, page_fits) in
        rw (w-is, q-is, get_or-drop, get_or-take {A = ℕ} (page_bytes p) _ (p.s + 5) 0 in_page, get_or-drop, get_or-take {A = ℕ} (block_bytes p) _ (j * page_bytes p + (p.s + 5)) 0 b, get_or-drop)
