-- Where a page stands on the chip; an erased page and what is put into it.
-- Assumes nothing.
use mathlib.Core.Path.{◌≡◌, refl, sym, ap, ◌∙◌}
use mathlib.Core.List.{List, [], ◌++◌, append-nil}
use Prim.Native.Nat.{ℕ, ◌+◌, ◌*◌, ◌-◌, ◌≤◌, ◌<◌}
use native.Mathlib.Omega.{arith}
use lib.ListN.{length, take, drop, replicate, length-append, length-drop, length-replicate, length-take, replicate-append-replicate, drop_of_length-le}
use lib.Seq.{drop_at, take_at, take-take}
use Rattle.lists.specs.Parts.{part}
use Rattle.lists.proofs.Parts.{next, part_length}
use Rattle.rules.specs.declared.Params.{Params}
use Rattle.rules.specs.Parameters.{pages, page_bytes, chip_bytes}
use Rattle.rules.specs.Traces.{page_at}
use Rattle.loops.proofs.Lent.{lent, lent_part}

-- ---- the end of a page

-- page q of block n ends on the chip
pub page_fits : (p : Params) (chip : List ℕ) (n q : ℕ) → length chip ≡ chip_bytes p → n < p.N → q < pages p
    → page_at p n q * page_bytes p + page_bytes p ≤ length chip
unfolding chip_bytes
page_fits p chip n q e h k =
    let low : n * pages p + q < p.N * pages p = omega (arith, next (pages p) n p.N h) in
    rw e (next (page_bytes p) (n * pages p + q) (p.N * pages p) low)

-- ---- a page in two pieces

-- a page whose data bytes are x and whose spare area is erased
module _ (x l : List ℕ) (s : ℕ) (size : length x ≡ s) (e : l ≡ x ++ replicate 16 255) where
  page_length : length l ≡ s + 16
  page_length = ap length e ∙ length-append x (replicate 16 255) ∙ ap (λ (n : ℕ). n + 16) size

  spare_is : drop s l ≡ replicate 16 255
  spare_is = rw e (drop_at x (replicate 16 255) s size)

  spare_width : length l - s ≡ 16
  spare_width = omega (arith, page_length)

  pub spare_left : take (length l - s) (drop s l) ≡ replicate 16 255
  spare_left = rw (spare_is, spare_width)

  pub page_done : (y : List ℕ) → take s l ++ (y ++ drop (length l - s) (drop s l)) ≡ x ++ y
  page_done y =
      let t : take s l ≡ x = rw e (take_at x (replicate 16 255) s size) in
      rw (spare_is, spare_width, t, append-nil)

pub erased_split : (s : ℕ) → replicate {A = ℕ} (s + 16) 255 ≡ replicate s 255 ++ replicate 16 255
erased_split s = sym (replicate-append-replicate {A = ℕ} s 16 255)

-- an erased page once x is put at its head
pub put_erased : (x page l : List ℕ) → page ≡ replicate (length x + 16) 255 → l ≡ x ++ drop (length x) page → l ≡ x ++ replicate 16 255
put_erased x page l e f =
    f ∙ ap (λ (t : List ℕ). x ++ t) (rw (e, erased_split (length x)) (drop_at (replicate (length x) 255) (replicate 16 255) (length x) (length-replicate {A = ℕ} (length x) 255)))

-- a page once all of it is put
pub put_whole : (x page : List ℕ) → length page ≡ length x → x ++ drop (length x) page ≡ x
put_whole x page e =
    let d : drop (length x) page ≡ [] = drop_of_length-le page {i = length x} (omega (arith, e)) in
    rw (d, append-nil)

-- what a buffer holds once bytes are put at its head
pub put_held : (x rest r : List ℕ) → r ≡ x ++ rest → take (length x) r ≡ x
put_held x rest r e = rw e (take_at x rest (length x) refl)

-- what is held of a part
pub held_part : (l r : List ℕ) (i w : ℕ) → i * w + w ≤ length l
    → take (length (take (i * w + w - i * w) (drop (i * w) l))) r ≡ take (i * w + w - i * w) (drop (i * w) l) → take w r ≡ part w i l
held_part l r i w h e =
    let f : take (length (part w i l)) r ≡ part w i l = rw (lent_part w i l) at e in
    rw (part_length w i l h) at f

-- what is held of the data bytes of a page
module _ (l r : List ℕ) (i s : ℕ) (fits : i * (s + 16) + (s + 16) ≤ length l)
    (e : take (length (take (i * (s + 16) + s - i * (s + 16)) (drop (i * (s + 16)) l))) r ≡ take (i * (s + 16) + s - i * (s + 16)) (drop (i * (s + 16)) l)) where
  data_length : length (take s (drop (i * (s + 16)) l)) ≡ s
  data_length = simp (length-take, length-drop) (omega arith)

  data_is : take s r ≡ take s (drop (i * (s + 16)) l)
  data_is =
      let f : take (length (take s (drop (i * (s + 16)) l))) r ≡ take s (drop (i * (s + 16)) l) = rw (lent (i * (s + 16)) s l) at e in
      rw data_length at f

  pub held_data : take s r ≡ take s (part (s + 16) i l)
  unfolding part
  held_data = data_is ∙ sym (take-take s (s + 16) (drop (i * (s + 16)) l) (omega arith))

  pub held_length : length (take s r) ≡ s
  held_length = rw data_is data_length
