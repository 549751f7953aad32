-- The spare areas of a frame, byte by byte, and where they stand in the frame.
-- Assumes nothing.
use mathlib.Core.Path.{◌≡◌, refl, ap, sym, ◌∙◌}
use mathlib.Core.List.{List, [], ◌∷◌}
use Prim.Native.Nat.{◌*◌, ◌+◌, ◌-◌, ◌<◌, suc, zero, ℕ, ◌≤◌}
use native.Mathlib.Nat.{add-mul, add-zero, one-mul, suc-add, zero-add, zero-mul}
use native.Mathlib.Omega.{arith}
use lib.Dec.{eqb}
use lib.ListN.{drop, get_or, length, length-drop, length-take, take}
use lib.Seq.{drop-drop, get_or-drop, get_or-take, take-nil}
use Rattle.lists.specs.Parts.{part}
use Rattle.lists.proofs.Parts.{next}
use Rattle.rules.specs.declared.Params.{Params}
use Rattle.rules.specs.Pages.{held, le32, page, page_used, programmed, spare, stamp_of, vblock_in, whole}
use Rattle.rules.specs.Parameters.{frame_bytes, page_bytes}
use Rattle.loops.proofs.Elements.{default}
use Rattle.chip_words.proofs.Words.{Bytes, bytes_drop, bytes_take, four_bytes}

drop_take : (n m : ℕ) (l : List ℕ) → drop n (take (n + m) l) ≡ take m (drop n l)
drop_take zero m l = rw zero-add
drop_take (suc n) m [] = rw (take-nil (suc n + m), take-nil m)
drop_take (suc n) m (x ∷ l) = rw suc-add (drop_take n m l)

spare_is : (p : Params) (fr : List ℕ) (j : ℕ) → spare p fr j ≡ take 16 (drop p.s (drop (j * page_bytes p) fr))
unfolding spare page part page_bytes
spare_is p fr j = drop_take p.s 16 (drop (j * (p.s + 16)) fr)

pub spare_at : (p : Params) (fr : List ℕ) (k z : ℕ) → k < 16 → get_or (spare p fr 0) k z ≡ get_or fr (p.s + k) z
spare_at p fr k z h = rw (spare_is, get_or-take 16 _ k z h, get_or-drop, zero-mul)

-- the cluster, from the first four bytes of the first spare area
pub held_is : (p : Params) (fr : List ℕ) → held p fr ≡ le32 (drop p.s fr)
unfolding held le32
held_is p fr = rw (four_bytes p.s fr, spare_at p fr 0 0 (omega arith), spare_at p fr 1 0 (omega arith), spare_at p fr 2 0 (omega arith), spare_at p fr 3 0 (omega arith), add-zero)

-- the stamp, from bytes 7 to 10
stamp_at_lem : (p : Params) (fr : List ℕ) (k : ℕ) → k < 4 → get_or (drop 7 (spare p fr 0)) k 0 ≡ get_or (drop (p.s + 7) fr) k 0
stamp_at_lem p fr k h = get_or-drop 7 (spare p fr 0) k 0 ∙ spare_at p fr (7 + k) 0 (omega arith) ∙ ap (λ (n : ℕ). get_or fr n 0) (omega arith) ∙ sym (get_or-drop (p.s + 7) fr k 0)

pub stamp_is : (p : Params) (fr : List ℕ) → stamp_of p fr ≡ le32 (drop (p.s + 7) fr)
unfolding stamp_of le32
stamp_is p fr = rw (stamp_at_lem p fr 0 (omega arith), stamp_at_lem p fr 1 (omega arith), stamp_at_lem p fr 2 (omega arith), stamp_at_lem p fr 3 (omega arith))

-- whether it is programmed, from byte 6
pub programmed_is : (p : Params) (fr : List ℕ) → p.s + 6 < length fr → programmed p fr ≡ eqb (get_or fr (p.s + 6) 0) 0
unfolding programmed page_used
programmed_is p fr h = rw (spare_at p fr 6 255 (omega arith), default fr (p.s + 6) 255 0 h)

-- the virtual block, from byte 11
pub vblock_is_lem : (p : Params) (fr : List ℕ) → p.s + 11 < length fr → vblock_in p fr ≡ get_or fr (p.s + 11) 0
unfolding vblock_in
vblock_is_lem p fr h = rw (spare_at p fr 11 255 (omega arith), default fr (p.s + 11) 255 0 h)

-- the spare area of the last page is the end of the frame
module _ (p : Params) (fr : List ℕ) (some : 0 < p.alpha) (size : length fr ≡ frame_bytes p) where
  pub last_fits : 16 ≤ length fr
  unfolding frame_bytes page_bytes
  last_fits = omega (arith, size, next (p.s + 16) 0 p.alpha some)

  last_at : (p.alpha - 1) * page_bytes p + p.s ≡ length fr - 16
  unfolding frame_bytes page_bytes
  last_at =
      let n : p.alpha ≡ p.alpha - 1 + 1 = omega arith in
      let e : p.alpha * (p.s + 16) ≡ (p.alpha - 1) * (p.s + 16) + 1 * (p.s + 16) = ap (λ (m : ℕ). m * (p.s + 16)) n ∙ add-mul (p.alpha - 1) 1 (p.s + 16) in
      omega (arith, size, e, one-mul (p.s + 16))

  end_at : (k z : ℕ) → k < 16 → get_or (spare p fr (p.alpha - 1)) k z ≡ get_or fr (length fr - 16 + k) z
  end_at k z h = rw (spare_is, get_or-take 16 _ k z h, drop-drop, get_or-drop, last_at)

  pub last_held : le32 (spare p fr (p.alpha - 1)) ≡ le32 (drop (length fr - 16) fr)
  unfolding le32
  last_held = rw (four_bytes (length fr - 16) fr, end_at 0 0 (omega arith), end_at 1 0 (omega arith), end_at 2 0 (omega arith), end_at 3 0 (omega arith), add-zero)

  pub whole_is : whole p fr ≡ eqb (get_or fr (length fr - 16 + 6) 0) 0
  unfolding whole page_used
  whole_is = rw (end_at 6 255 (omega arith), default fr (length fr - 16 + 6) 255 0 (omega (arith, last_fits)))

-- a frame has at least its first page
pub first_page : (p : Params) → 0 < p.alpha → p.s + 16 ≤ frame_bytes p
unfolding frame_bytes page_bytes
first_page p h = omega (arith, next (p.s + 16) 0 p.alpha h)

-- the spare area of page j lies in the frame; its two words
pub spare_fits : (p : Params) (j w n : ℕ) → w ≡ page_bytes p → n ≡ frame_bytes p → j < p.alpha → j * w + p.s + 16 ≤ n
unfolding frame_bytes page_bytes
spare_fits p j w n e k h = rw (e, k) (omega (arith, next (p.s + 16) j p.alpha h))

take_less : (n m : ℕ) (l : List ℕ) → take n (take (n + m) l) ≡ take n l
take_less zero m l = refl
take_less (suc n) m [] = rw (take-nil (suc n + m))
take_less (suc n) m (x ∷ l) = rw suc-add (ap (λ (xs : List ℕ). x ∷ xs) (take_less n m l))

module _ (p : Params) (fr : List ℕ) (j w : ℕ) (is : w ≡ page_bytes p) where
  from_here : spare p fr j ≡ take 16 (drop (j * w + p.s) fr)
  from_here = rw (is, spare_is p fr j, drop-drop)

  pub spare_first : take 8 (drop (j * w + p.s) fr) ≡ take 8 (spare p fr j)
  spare_first = rw from_here (sym (take_less 8 8 (drop (j * w + p.s) fr)))

  pub spare_second : take 8 (drop (j * w + p.s + 8) fr) ≡ take 8 (drop 8 (spare p fr j))
  spare_second = rw (from_here, drop_take 8 8 (drop (j * w + p.s) fr), drop-drop) (sym (take_less 8 0 (drop (j * w + p.s + 8) fr)))

  pub spare_long : j * w + p.s + 16 ≤ length fr → length (spare p fr j) ≡ 16
  spare_long h = rw from_here (simp (length-take, length-drop) (omega arith))

  pub spare_are : Bytes fr → Bytes (spare p fr j)
  spare_are h = rw from_here (bytes_take 16 (drop (j * w + p.s) fr) (bytes_drop (j * w + p.s) fr h))
