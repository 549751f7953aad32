-- Whether a block is bad, by its bytes: an erased page and a programmed one have 255 in spare byte 5, so a block that is erased, or whose first frames are programmed and whose rest is
-- erased, is not bad.
-- Assumes nothing.
use mathlib.Core.Path.{◌≡◌, refl, ap, ◌∙◌}
use Prim.Native.Nat.{ℕ, ◌+◌, ◌*◌, ◌/◌, ◌%◌, ◌≤◌, ◌<◌}
use native.Mathlib.Nat.{div-add-mod', div-lt_iff_lt-mul, mod-lt}
use native.Mathlib.Omega.{arith}
use native.Mathlib.Decide.{dec_lt}
use mathlib.Core.Bool.{true, false, not, ◌&&◌, and-false}
use mathlib.Core.List.{List}
use lib.Dec.{eqb, leb}
use borrow.Author.Tests.{lt-leb}
use lib.ListN.{length, drop, get_or, get_or-replicate, length-drop}
use Rattle.lists.specs.Parts.{all_are}
use Rattle.lists.proofs.Joins.{all_are_drop, all_are_part, replicate_of}
use Rattle.lists.proofs.Parts.{next, part_length, part_part}
use Rattle.rules.specs.declared.Params.{Params}
use Rattle.rules.specs.Parameters.{block_bytes, frame_bytes, frames, page_bytes, pages}
use Rattle.rules.specs.Pages.{block, bytes32, frame, page, spare, spare_bytes}
use Rattle.rules.specs.Orderly.{used_pages}
use Rattle.rules.specs.Format.{bad, bad_mark}
use Rattle.rules.proofs.RegionFacts.{GoodFrame, UpTo}
use Rattle.rules.proofs.Sizes.{Sizes, some_page}

-- ---- spare byte 5 of a page

module _ (p : Params) (blk : List ℕ) (whole : length blk ≡ block_bytes p) where
  -- its pages lie within it
  pub page_fits : (q : ℕ) → q < pages p → q * page_bytes p + page_bytes p ≤ length blk
  unfolding block_bytes frame_bytes pages
  page_fits q h = omega (arith, whole, next (page_bytes p) q (p.alpha * frames p) h)

  -- the spare bytes are 16
  spare_long : (q : ℕ) → q < pages p → length (spare p blk q) ≡ 16
  unfolding spare page page_bytes
  spare_long q h = simp length-drop (omega (arith, part_length (p.s + 16) q blk (page_fits q h)))

  -- byte 5 is 255 where they are erased
  pub erased_fifth : (q : ℕ) → q < pages p → all_are 255 (spare p blk q) ≡ true → get_or (spare p blk q) 5 0 ≡ 255
  erased_fifth q h e = ap (λ (l : List ℕ). get_or l 5 0) (replicate_of 255 (spare p blk q) e) ∙ get_or-replicate (length (spare p blk q)) 5 255 0 (omega (arith, spare_long q h))

  -- so in each page of a block that is erased throughout
  free_fifth : all_are 255 blk ≡ true → (q : ℕ) → q < pages p → get_or (spare p blk q) 5 0 ≡ 255
  unfolding spare page
  free_fifth e q h = erased_fifth q h (all_are_drop 255 p.s _ (all_are_part 255 (page_bytes p) q blk e))

  -- page j of frame f is page f·α + j of the block
  pub frame_spare : (f j : ℕ) → j < p.alpha → spare p (frame p blk f) j ≡ spare p blk (f * p.alpha + j)
  unfolding spare page frame frame_bytes
  frame_spare f j h = ap (drop p.s) (part_part (page_bytes p) p.alpha f j blk h)

  -- and in each page of a block whose first k frames are programmed and whose rest is erased: by its frame and its place there
  frame_fifth : (r v k : ℕ) → UpTo p r v k blk → (f j : ℕ) → f < frames p → j < p.alpha → f * p.alpha + j < pages p → get_or (spare p blk (f * p.alpha + j)) 5 0 ≡ 255
  frame_fifth r v k u f j lf lj h = go (dec_lt f k)
    where
      go : Dec (f < k) → get_or (spare p blk (f * p.alpha + j)) 5 0 ≡ 255
      go (yes a) = used (u.front f a lf) (dec_lt j (used_pages p (frame p blk f)))
        where
          used : GoodFrame p r v (frame p blk f) → Dec (j < used_pages p (frame p blk f)) → get_or (spare p blk (f * p.alpha + j)) 5 0 ≡ 255
          used g (yes m) = rw (← frame_spare f j lj, g.spares j m lj) (unfold spare_bytes bytes32 in refl)
          used g (no m) = erased_fifth (f * p.alpha + j) h (rw (← frame_spare f j lj) (unfold spare in all_are_drop 255 p.s _ (g.blank j (omega arith) lj)))
      go (no a) = erased_fifth (f * p.alpha + j) h (rw (← frame_spare f j lj)
          (unfold spare page in all_are_drop 255 p.s _ (all_are_part 255 (page_bytes p) j (frame p blk f) (u.rest f (omega arith) lf))))

  -- by its number
  used_fifth : Sizes p → (r v k : ℕ) → UpTo p r v k blk → (q : ℕ) → q < pages p → get_or (spare p blk q) 5 0 ≡ 255
  used_fifth z r v k u q h =
      let e : q / p.alpha * p.alpha + q % p.alpha ≡ q = div-add-mod' q p.alpha in
      let low : q / p.alpha < frames p = (div-lt_iff_lt-mul z.sectors).1 (unfold pages in omega arith) in
      rw e at (frame_fifth r v k u (q / p.alpha) (q % p.alpha) low (mod-lt q z.sectors) (rw e h))

-- ---- bad blocks

-- a block is not bad if that byte of each of its pages is 255
fifths_good : (p : Params) (chip : List ℕ) (n : ℕ) → Sizes p → ((q : ℕ) → q < pages p → get_or (spare p (block p chip n) q) 5 0 ≡ 255) → bad p chip n ≡ false
unfolding bad bad_mark
fifths_good p chip n z h = rw (h 0 (some_page p z)) (go (dec_lt 1 (pages p)))
  where
    go : Dec (1 < pages p) → leb 2 (pages p) && not (eqb (get_or (spare p (block p chip n) 1) 5 0) 255) ≡ false
    go (yes k) = rw (h 1 k) (and-false (leb 2 (pages p)))
    go (no k) = rw (lt-leb 2 (pages p) (omega arith))

-- so one that is erased throughout, and one whose first frames are programmed and whose rest is erased
pub blank_good : (p : Params) (chip : List ℕ) (n : ℕ) → Sizes p → length (block p chip n) ≡ block_bytes p → all_are 255 (block p chip n) ≡ true → bad p chip n ≡ false
blank_good p chip n z w e = fifths_good p chip n z (free_fifth p (block p chip n) w e)

pub up_to_good : (p : Params) (chip : List ℕ) (n : ℕ) → Sizes p → length (block p chip n) ≡ block_bytes p → (r v k : ℕ) → UpTo p r v k (block p chip n) → bad p chip n ≡ false
up_to_good p chip n z w r v k u = fifths_good p chip n z (used_fifth p (block p chip n) w z r v k u)

-- the bytes of a block say whether it is bad
pub bytes_bad : (p : Params) (chip chip' : List ℕ) (n : ℕ) → block p chip' n ≡ block p chip n → bad p chip' n ≡ bad p chip n
unfolding bad bad_mark
bytes_bad p chip chip' n e = rw e
