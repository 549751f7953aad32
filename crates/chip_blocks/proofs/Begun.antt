-- The pages of a frame from the first on that have the spare bytes of its cluster, up to one that has not: the frame is a good one exactly if there is such a page and
-- everything after them is erased. Such a page is programmed and an erased one is not, so no other number of pages can be the programmed ones.
-- Assumes nothing.
use mathlib.Core.Path.{◌≡◌, refl, sym, ◌∙◌}
use mathlib.Core.Logic.{◌⊎◌, inl, inr}
use mathlib.Core.Bool.{◌&&◌, false, not, true}
use mathlib.Core.List.{List}
use Prim.Native.Nat.{ℕ, ◌%◌, ◌*◌, ◌-◌, ◌<◌, ◌≤◌}
use native.Mathlib.Nat.{mul-le-mul_right}
use native.Mathlib.Decide.{dec_lt, ℕ_discrete}
use native.Mathlib.Omega.{arith}
use lib.Dec.{eqb}
use lib.ListN.{drop, length, length-drop, take}
use lib.Seq.{take_all}
use borrow.Author.Tests.{eq-eqb, ne_eqb}
use Rattle.lists.specs.Below.{all_below}
use Rattle.lists.specs.Parts.{all_are, same_list}
use Rattle.lists.proofs.Joins.{same_refl, same_list→eq}
use Rattle.lists.proofs.Tests.{all_at, count_is, count_le, never, so}
use Rattle.rules.specs.declared.Params.{Params}
use Rattle.rules.specs.Orderly.{good_frame, used_pages}
use Rattle.rules.specs.Pages.{held, page, programmed, spare, spare_bytes, stamp_of}
use Rattle.rules.specs.Parameters.{frame_bytes, page_bytes}
use Rattle.rules.proofs.Frames.{right_programmed, right_used, page_not}
use Rattle.rules.proofs.RegionFacts.{GoodFrame, good_frame_lem, good_frame_back, good_used}
use Rattle.rules.proofs.Sizes.{Sizes}
use Rattle.chip_blocks.proofs.Rest.{parts_back, parts_from}

module _ (p : Params) (z : Sizes p) (r v : ℕ) (fr : List ℕ) (size : length fr ≡ frame_bytes p) (c : ℕ) (e : c ≡ held p fr) (t : ℕ) (et : t ≡ stamp_of p fr) (low : c < p.C) (mine : c % p.mu ≡ r)
    (k : ℕ) (le : k ≤ p.alpha) (front : all_below k (λ j. same_list (spare p fr j) (spare_bytes c j t v)) ≡ true)
    (stop : k < p.alpha → same_list (spare p fr k) (spare_bytes c k t v) ≡ false) where
  marked : (j : ℕ) → j < k → spare p fr j ≡ spare_bytes (held p fr) j (stamp_of p fr) v
  marked j h = same_list→eq _ _ (all_at k _ front j h) ∙ rw (e, et)

  -- where the rest is erased the frame is good
  good : 0 < k → ((j : ℕ) → k ≤ j → j < p.alpha → all_are 255 (page p fr j) ≡ true) → GoodFrame p r v fr
  good some blank =
      let used : used_pages p fr ≡ k =
      unfold used_pages in count_is p.alpha k _ le (λ j h. right_used p fr j (held p fr) (stamp_of p fr) v (marked j h)) (λ j a b. page_not p fr j (blank j a b)) in
      record {
        on = right_programmed p fr (held p fr) (stamp_of p fr) v (marked 0 some);
        low = rw (← e) low;
        mine = rw (← e) mine;
        spares = λ j a b. marked j (omega (arith, used));
        blank = λ j a b. blank j (omega (arith, used)) b;
      }

  pub all_good : k ≡ p.alpha → true ≡ good_frame p r v fr
  all_good h = sym (good_frame_back p r v fr (good (omega (arith, z.sectors)) (λ j a b. absurd (omega (arith, h)))))

  -- a good frame has these pages programmed
  used_is_lem : GoodFrame p r v fr → used_pages p fr ≡ k
  used_is_lem g = go (dec_lt (used_pages p fr) k) (dec_lt k (used_pages p fr))
    where
      go : Dec (used_pages p fr < k) → Dec (k < used_pages p fr) → used_pages p fr ≡ k
      go (yes a) b =
          let in_frame : used_pages p fr < p.alpha = omega arith in
          absurd (omega (arith, good_used p r v fr g (used_pages p fr) in_frame (right_used p fr (used_pages p fr) (held p fr) (stamp_of p fr) v (marked (used_pages p fr) a))))
      go (no a) (yes b) = inside (dec_lt k p.alpha)
        where
          inside : Dec (k < p.alpha) → used_pages p fr ≡ k
          inside (yes h) = absurd (never (rw (e, et, g.spares k b h) (same_refl _)) (stop h))
          inside (no h) = absurd (omega (arith, used_most))
            where
              used_most : used_pages p fr ≤ p.alpha
              used_most = unfold used_pages in count_le p.alpha _
      go (no a) (no b) = omega arith

  none_right : k ≡ 0 → false ≡ good_frame p r v fr
  none_right h = go (so (good_frame p r v fr))
    where
      go : (good_frame p r v fr ≡ true) ⊎ (good_frame p r v fr ≡ false) → false ≡ good_frame p r v fr
      go (inl t) =
          let g = good_frame_lem p r v fr t in
          absurd (omega (arith, used_is_lem g, good_used p r v fr g 0 z.sectors (unfold programmed in g.on)))
      go (inr t) = sym t

  rest_decides : (k ≡ 0 → ⊥) → all_are 255 (drop (k * page_bytes p) fr) ≡ good_frame p r v fr
  rest_decides some = go (so (all_are 255 (drop (k * page_bytes p) fr))) (so (good_frame p r v fr))
    where
      back : GoodFrame p r v fr → all_are 255 (drop (k * page_bytes p) fr) ≡ true
      back g =
          parts_back 255 (page_bytes p) k p.alpha fr le (size ∙ unfold frame_bytes in refl)
          (λ j a b. unfold page in g.blank j (omega (arith, used_is_lem g)) b)

      go : (all_are 255 (drop (k * page_bytes p) fr) ≡ true) ⊎ (all_are 255 (drop (k * page_bytes p) fr) ≡ false) → (good_frame p r v fr ≡ true) ⊎ (good_frame p r v fr ≡ false)
          → all_are 255 (drop (k * page_bytes p) fr) ≡ good_frame p r v fr
      go (inl t) s = t ∙ sym (good_frame_back p r v fr (good (omega arith) (λ j a b. unfold page in parts_from 255 (page_bytes p) k fr t j a)))
      go (inr t) (inr h) = t ∙ sym h
      go (inr t) (inl h) = absurd (never (back (good_frame_lem p r v fr h)) t)

  -- both at once, as the code has it
  pub begun_decides : not (eqb k 0) && all_are 255 (drop (k * page_bytes p) fr) ≡ good_frame p r v fr
  begun_decides = go (ℕ_discrete k 0)
    where
      go : Dec (k ≡ 0) → not (eqb k 0) && all_are 255 (drop (k * page_bytes p) fr) ≡ good_frame p r v fr
      go (yes e) = rw (eq-eqb k 0 e) (none_right e)
      go (no ne) = rw (ne_eqb k 0 ne) (rest_decides ne)

-- the pages from page k on, in a frame of α pages of w bytes
module _ (p : Params) (fr : List ℕ) (k w : ℕ) (le : k ≤ p.alpha) (size : length fr ≡ frame_bytes p) (ew : w ≡ page_bytes p) where
  pub pages_start : k * w ≤ length fr
  unfolding frame_bytes
  pages_start = rw (size, ew) (mul-le-mul_right (page_bytes p) le)

  pub pages_lent : take (length fr - k * w) (drop (k * w) fr) ≡ drop (k * page_bytes p) fr
  pages_lent = take_all (length fr - k * w) (drop (k * w) fr) (rw length-drop (omega arith)) ∙ rw ew
