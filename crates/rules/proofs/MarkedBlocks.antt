-- A mark puts its page into its block, as the first page, and leaves every other block. The page has a zero in spare byte 5, so the block is bad; it has 255 in
-- spare byte 6, so that no frame of a block that was erased before is programmed. On an erased page the mark changes one byte.
-- Assumes nothing.
use mathlib.Core.Path.{◌≡◌, refl, sym, ap, ◌∙◌}
use mathlib.Core.Logic.{◌⊎◌, inl, inr}
use Prim.Native.Nat.{ℕ, zero, suc, ◌+◌, ◌-◌, ◌*◌, ◌/◌, ◌≤◌, ◌<◌}
use native.Mathlib.Omega.{arith}
use native.Mathlib.Decide.{ℕ_discrete}
use mathlib.Core.Bool.{true, false, ◌&&◌}
use mathlib.Core.List.{List, [], ◌∷◌, ◌++◌, append_assoc}
use lib.Dec.{eqb}
use lib.ListN.{length, drop, get_or, length-append, length-drop, length-replicate, length-take, replicate, replicate-append-replicate, set, take, take-append-drop}
use lib.Seq.{drop-drop, set_at}
use Rattle.lists.specs.Parts.{all_are, part, put_part}
use Rattle.lists.proofs.Joins.{all_are_at, all_are_drop, all_are_part, replicate_of}
use Rattle.lists.proofs.Parts.{next, part_length, part_part, put_inner, put_length, put_other, put_same}
use Rattle.lists.proofs.Tests.{and_no, count_is, last_passes, never, so}
use Rattle.rules.specs.declared.Params.{Params}
use Rattle.rules.specs.Parameters.{allowed, block_bytes, frame_bytes, frames, page_bytes, pages}
use Rattle.rules.specs.Tables.{not_found}
use Rattle.rules.specs.Pages.{block, filled, frame, holds, last_in, page, page_used, programmed, spare, whole}
use Rattle.rules.specs.Traces.{clean, erase, erases_in, is_erase, is_program, mark, mark_page, on_chip, page_at, programs_in, replay_chip}
use Rattle.rules.specs.Format.{bad, bad_mark}
use Rattle.rules.specs.Words.{MarkExactly, MarksUnreported}
use Rattle.rules.proofs.BadBytes.{bytes_bad, frame_spare, page_fits}
use Rattle.rules.proofs.Replays.{Ran, block_size, erase_ran, fresh_all, one_fits}
use Rattle.rules.proofs.Sizes.{Sizes, sizes, some_page}
use Rattle.rules.proofs.TableFacts.{chip_size}

-- ---- what is counted

-- a mark is one operation more, and neither a program nor an erase more
pub marks_unreported : MarksUnreported
unfolding programs_in erases_in is_program is_erase
marks_unreported n os = (omega arith, omega arith, omega arith)

-- ---- the page

-- it is a whole page
pub mark_whole : (p : Params) → length (mark_page p) ≡ page_bytes p
unfolding mark_page page_bytes
mark_whole p = simp (length-append, length-replicate) (omega arith)

after_ones : (s : ℕ) (l : List ℕ) → drop s (replicate (s + 5) 255 ++ l) ≡ replicate 5 255 ++ l
after_ones zero l = refl
after_ones (suc s) l = let e : suc s + 5 ≡ suc (s + 5) = omega arith in rw e (after_ones s l)

-- its spare bytes
pub mark_spare : (p : Params) → drop p.s (mark_page p) ≡ replicate 5 255 ++ (0 ∷ replicate 10 255)
unfolding mark_page
mark_spare p = after_ones p.s (0 ∷ replicate 10 255)

-- it is not erased
pub mark_not_blank : (p : Params) → all_are 255 (mark_page p) ≡ false
mark_not_blank p = go (so (all_are 255 (mark_page p)))
  where
    go : (all_are 255 (mark_page p) ≡ true) ⊎ (all_are 255 (mark_page p) ≡ false) → all_are 255 (mark_page p) ≡ false
    go (inl t) =
        let z : ◌≡◌ {A = ℕ} 0 255 = ap (λ (x : List ℕ). get_or x 5 255) (sym (mark_spare p)) ∙ all_are_at 255 (drop p.s (mark_page p)) 5 (all_are_drop 255 p.s (mark_page p) t) in
        absurd (omega arith)
    go (inr t) = t

-- ---- the block

-- a block with this page as its first
unfoldable pub marked_block : Params → List ℕ → List ℕ
marked_block p blk = put_part (page_bytes p) 0 (mark_page p) blk

module _ (p : Params) (z : Sizes p) (blk : List ℕ) (size : length blk ≡ block_bytes p) where
  first_fits : 0 * page_bytes p + page_bytes p ≤ length blk
  first_fits = page_fits p blk size 0 (some_page p z)

  -- it is a whole block
  pub marked_size : length (marked_block p blk) ≡ block_bytes p
  unfolding marked_block
  marked_size = put_length (page_bytes p) 0 (mark_page p) blk first_fits (mark_whole p) ∙ size

  -- page 0 is the mark's, and every other is as it was
  pub marked_first : page p (marked_block p blk) 0 ≡ mark_page p
  unfolding marked_block page
  marked_first = put_same (page_bytes p) 0 (mark_page p) blk first_fits (mark_whole p)

  pub marked_page : (q : ℕ) → (q ≡ 0 → ⊥) → page p (marked_block p blk) q ≡ page p blk q
  unfolding marked_block page
  marked_page q ne = put_other (page_bytes p) 0 (mark_page p) blk first_fits (mark_whole p) q ne

  -- so is every frame but the first
  pub marked_frame : (f : ℕ) → (f ≡ 0 → ⊥) → frame p (marked_block p blk) f ≡ frame p blk f
  unfolding marked_block frame frame_bytes
  marked_frame f ne =
      let first : 0 * p.alpha + 0 ≡ 0 = omega arith in
      let room : 0 * frame_bytes p + frame_bytes p ≤ length blk = one_fits p blk 0 size z.some in
      let long : length (frame p blk 0) ≡ frame_bytes p = part_length (frame_bytes p) 0 blk room in
      let in_frame : 0 * page_bytes p + page_bytes p ≤ length (frame p blk 0) = rw long (next (page_bytes p) 0 p.alpha z.sectors) in
      rw (rw first at (put_inner (page_bytes p) p.alpha 0 0 (mark_page p) blk z.sectors room))
      (put_other (frame_bytes p) 0 _ blk room (put_length (page_bytes p) 0 (mark_page p) (frame p blk 0) in_frame (mark_whole p) ∙ long) f ne)

  -- it is not erased
  pub marked_not_blank : all_are 255 (marked_block p blk) ≡ false
  unfolding page
  marked_not_blank = go (so (all_are 255 (marked_block p blk)))
    where
      go : (all_are 255 (marked_block p blk) ≡ true) ⊎ (all_are 255 (marked_block p blk) ≡ false) → all_are 255 (marked_block p blk) ≡ false
      go (inl t) = absurd (never (rw marked_first at (all_are_part 255 (page_bytes p) 0 (marked_block p blk) t)) (mark_not_blank p))
      go (inr t) = t

-- of a block that was erased
module _ (p : Params) (z : Sizes p) (blk : List ℕ) (size : length blk ≡ block_bytes p) (blank : all_are 255 blk ≡ true) where
  -- its pages from 1 on are erased
  pub marked_rest : (q : ℕ) → (q ≡ 0 → ⊥) → all_are 255 (page p (marked_block p blk) q) ≡ true
  marked_rest q ne = rw (marked_page p z blk size q ne) (unfold page in all_are_part 255 (page_bytes p) q blk blank)

  sixth : (q : ℕ) → get_or (spare p (marked_block p blk) q) 6 255 ≡ 255
  unfolding spare
  sixth q = go (ℕ_discrete q 0)
    where
      go : Dec (q ≡ 0) → get_or (drop p.s (page p (marked_block p blk) q)) 6 255 ≡ 255
      go (yes e) = rw (e, marked_first p z blk size, mark_spare p)
      go (no e) = all_are_at 255 _ 6 (all_are_drop 255 p.s _ (marked_rest q e))

  -- no page of a frame of it is programmed
  pub marked_unused : (f j : ℕ) → j < p.alpha → page_used p (frame p (marked_block p blk) f) j ≡ false
  unfolding page_used
  marked_unused f j h = rw (frame_spare p (marked_block p blk) (marked_size p z blk size) f j h, sixth (f * p.alpha + j))

  -- so no frame of it is programmed
  pub marked_unprogrammed : (f : ℕ) → programmed p (frame p (marked_block p blk) f) ≡ false
  unfolding programmed
  marked_unprogrammed f = marked_unused f 0 z.sectors

  -- none holds a cluster
  pub marked_holds : (f c : ℕ) → holds p (frame p (marked_block p blk) f) c ≡ false
  unfolding holds whole
  marked_holds f c = rw (marked_unused f (p.alpha - 1) (omega (arith, z.sectors)))

  -- none is counted
  pub marked_filled : filled p (marked_block p blk) ≡ 0
  unfolding filled
  marked_filled = count_is (frames p) 0 _ (omega arith) (λ i h. absurd (omega arith)) (λ i h k. marked_unprogrammed i)

  -- and no search finds one
  pub marked_search : (k c : ℕ) → last_in p (marked_block p blk) k c ≡ not_found
  unfolding last_in
  marked_search k c = go (ℕ_discrete (last_in p (marked_block p blk) k c) not_found)
    where
      go : Dec (last_in p (marked_block p blk) k c ≡ not_found) → last_in p (marked_block p blk) k c ≡ not_found
      go (yes e) = e
      go (no e) =
          let found = last_passes not_found (frames p) (λ f. eqb (f / p.beta) k && holds p (frame p (marked_block p blk) f) c) e in
          absurd (never found.0 (and_no (eqb (last_in p (marked_block p blk) k c / p.beta) k) (marked_holds (last_in p (marked_block p blk) k c) c)))

-- ---- the chip

block_pages : (p : Params) → block_bytes p ≡ pages p * page_bytes p
unfolding block_bytes frame_bytes pages
block_pages p = omega arith

-- the first page of block n, counted over the chip
pub first_page : (p : Params) → Sizes p → (chip : List ℕ) (n : ℕ) → part (page_bytes p) (page_at p n 0) chip ≡ page p (block p chip n) 0
unfolding page block
first_page p z chip n = rw (block_pages p) (sym (part_part (page_bytes p) (pages p) n 0 chip (some_page p z)))

page_room : (p : Params) → Sizes p → (chip : List ℕ) (n : ℕ) → n * block_bytes p + block_bytes p ≤ length chip → page_at p n 0 * page_bytes p + page_bytes p ≤ length chip
page_room p z chip n fits = omega (arith, block_pages p, ap (λ (w : ℕ). n * w) (block_pages p), next (page_bytes p) 0 (pages p) (some_page p z), fits)

module _ (p : Params) (z : Sizes p) (chip : List ℕ) (n : ℕ) (fits : n * block_bytes p + block_bytes p ≤ length chip) where
  mark_is : on_chip p chip (mark n) ≡ put_part (block_bytes p) n (marked_block p (block p chip n)) chip
  unfolding on_chip marked_block block
  mark_is = rw (block_pages p) (put_inner (page_bytes p) (pages p) n 0 (mark_page p) chip (some_page p z) (rw (block_pages p) at fits))

  own_size : length (marked_block p (block p chip n)) ≡ block_bytes p
  own_size = marked_size p z (block p chip n) (block_size p chip n fits)

  -- the chip has that block as block n, and every other block and its length are as they were
  pub mark_ran : Ran p chip (on_chip p chip (mark n)) n (marked_block p (block p chip n))
  unfolding block
  mark_ran =
      rw mark_is
      (record {
        here = put_same (block_bytes p) n _ chip fits own_size;
        else = put_other (block_bytes p) n _ chip fits own_size;
        size = put_length (block_bytes p) n _ chip fits own_size;
      })

  -- the block is bad
  pub marked_bad : bad p (on_chip p chip (mark n)) n ≡ true
  unfolding bad bad_mark spare
  marked_bad = rw (mark_ran.here, marked_first p z (block p chip n) (block_size p chip n fits), mark_spare p)

  -- its first page is erased if the block is
  pub blank_clean : all_are 255 (block p chip n) ≡ true → clean p chip (mark n ∷ []) ≡ true
  unfolding clean page
  blank_clean e = rw (first_page p z chip n, all_are_part 255 (page_bytes p) 0 (block p chip n) e)

-- ---- by the chip's length

block_fits : (p : Params) (chip : List ℕ) (n : ℕ) → length chip ≡ p.N * block_bytes p → n < p.N → n * block_bytes p + block_bytes p ≤ length chip
block_fits p chip n e h = rw e (next (block_bytes p) n p.N h)

module _ (p : Params) (fine : allowed p ≡ true) (chip : List ℕ) (n : ℕ) (long : length chip ≡ p.N * block_bytes p) (low : n < p.N) where
  -- a marked block is bad
  pub mark_bad : bad p (on_chip p chip (mark n)) n ≡ true
  mark_bad = marked_bad p (sizes p fine) chip n (block_fits p chip n long low)

  -- every other block keeps its bytes, and so whether it is bad
  pub mark_others : (m : ℕ) → (m ≡ n → ⊥) → block p (on_chip p chip (mark n)) m ≡ block p chip m
  mark_others m ne = (mark_ran p (sizes p fine) chip n (block_fits p chip n long low)).else m ne

  pub mark_others_bad : (m : ℕ) → (m ≡ n → ⊥) → bad p (on_chip p chip (mark n)) m ≡ bad p chip m
  mark_others_bad m ne = bytes_bad p chip (on_chip p chip (mark n)) m (mark_others m ne)

  -- the chip stays as long as it was
  pub mark_long : length (on_chip p chip (mark n)) ≡ length chip
  mark_long = (mark_ran p (sizes p fine) chip n (block_fits p chip n long low)).size

  -- a mark right after the erase of its block is of an erased page
  pub mark_clean : clean p chip (erase n ∷ mark n ∷ []) ≡ true
  unfolding clean replay_chip
  mark_clean =
      let ran = erase_ran p chip n (block_fits p chip n long low) in
      blank_clean p (sizes p fine) (on_chip p chip (erase n)) n (rw ran.size (block_fits p chip n long low)) (rw ran.here (fresh_all p))

-- ---- the one byte that a mark changes on an erased page

one_byte : (a k r : ℕ) (l : List ℕ) → a + (k + suc r) ≤ length l → all_are 255 (take (k + suc r) (drop a l)) ≡ true
    → set l (a + k) 0 ≡ take a l ++ (replicate k 255 ++ (0 ∷ replicate r 255)) ++ drop (a + (k + suc r)) l
one_byte a k r l h e =
    let head : List ℕ = take a l ++ replicate k 255 in
    let rest : List ℕ = replicate r 255 ++ drop (a + (k + suc r)) l in
    let many : length (take (k + suc r) (drop a l)) ≡ k + suc r = simp (length-take, length-drop) (omega arith) in
    let ones : take (k + suc r) (drop a l) ≡ replicate k 255 ++ (255 ∷ replicate r 255) =
    replicate_of 255 _ e ∙ ap (λ (n : ℕ). replicate n 255) many ∙ sym (replicate-append-replicate k (suc r) 255) in
    let tail : drop a l ≡ (replicate k 255 ++ (255 ∷ replicate r 255)) ++ drop (a + (k + suc r)) l =
    sym (take-append-drop (k + suc r) (drop a l)) ∙ rw (ones, drop-drop (k + suc r) a l) in
    let is : l ≡ head ++ (255 ∷ rest) = sym (take-append-drop a l) ∙ rw tail (simp append_assoc) in
    let at : length head ≡ a + k = simp (length-append, length-take, length-replicate) (omega arith) in
    ap (λ (x : List ℕ). set x (a + k) 0) is ∙ set_at head 255 rest 0 (a + k) at ∙ simp append_assoc

-- a mark on an erased page changes its spare byte 5 alone
pub mark_exactly : MarkExactly
unfolding on_chip put_part mark_page page_bytes pages frames part
mark_exactly p chip n fine long low e =
    let z = sizes p fine in
    let a : ℕ = (n * pages p + 0) * (p.s + 16) in
    let w : p.s + 5 + 11 ≡ p.s + 16 = omega arith in
    let i : n * (p.alpha * (p.beta * p.d)) * (p.s + 16) + p.s + 5 ≡ a + (p.s + 5) = omega arith in
    let room : a + (p.s + 16) ≤ length chip = page_room p z chip n (block_fits p chip n (long ∙ chip_size p) low) in
    let blank : all_are 255 (take (p.s + 16) (drop a chip)) ≡ true = rw (← first_page p z chip n) at e in
    rw i (sym (rw w at (one_byte a (p.s + 5) 10 chip (rw w room) (rw w blank))))
