-- A frame of which only the first pages are programmed: on the chip it is a frame put there, whose first pages are new and whose rest is as it was. On an erased frame it is right as far as it goes,
-- and holds no cluster until it is whole.
-- Assumes nothing.
use mathlib.Core.Path.{◌≡◌, sym, ap, ◌∙◌}
use Prim.Native.Nat.{ℕ, ◌+◌, ◌-◌, ◌*◌, ◌≤◌, ◌<◌}
use native.Mathlib.Nat.{mul-le-mul_right}
use native.Mathlib.Omega.{arith}
use mathlib.Core.Bool.{true, false}
use mathlib.Core.List.{List, ◌++◌, append_assoc, append-nil}
use lib.ListN.{drop, drop_of_length-le, length, length-append, length-drop, length-take, take, take-append-drop}
use lib.Seq.{drop-append-le, drop_at, drop-drop, length-take-le, paste, take_all}
use Rattle.lists.specs.Parts.{all_are, part, put_part}
use Rattle.lists.proofs.Joins.{all_are_part}
use Rattle.lists.proofs.Parts.{front, next, part_length, part_part, put_length, put_other, put_same, window}
use Rattle.lists.proofs.Tests.{count_is}
use Rattle.rules.specs.declared.Params.{Params}
use Rattle.rules.specs.Parameters.{block_bytes, frame_bytes, frames, page_bytes}
use Rattle.rules.specs.Numbers.{region_of}
use Rattle.rules.specs.Pages.{block, frame, held, holds, page, spare, spare_bytes, stamp_of, whole}
use Rattle.rules.specs.Orderly.{used_pages}
use Rattle.rules.specs.Traces.{frame_ops, replay_chip}
use Rattle.rules.proofs.Chip.{frame_run, outer_fits, put_is}
use Rattle.rules.proofs.FramePut.{Sheet}
use Rattle.rules.proofs.Frames.{page_not, right_held, right_programmed, right_stamp, right_used}
use Rattle.rules.proofs.RegionFacts.{GoodFrame}
use Rattle.rules.proofs.Replays.{Ran, block_size, one_fits}
use Rattle.rules.proofs.Sizes.{Sizes}

-- the first k pages of x, the rest of y
unfoldable pub begun_frame : Params → List ℕ → List ℕ → ℕ → List ℕ
begun_frame p x y k = take (k * page_bytes p) x ++ drop (k * page_bytes p) y

module _ (p : Params) (x y : List ℕ) (k : ℕ) (few : k ≤ p.alpha) (wx : length x ≡ frame_bytes p) (wy : length y ≡ frame_bytes p) where
  reach : k * page_bytes p ≤ frame_bytes p
  unfolding frame_bytes
  reach = mul-le-mul_right (page_bytes p) few

  pub begun_size : length (begun_frame p x y k) ≡ frame_bytes p
  unfolding begun_frame
  begun_size = simp (length-append, length-take, length-drop, wx, wy) (omega (arith, reach))

  -- with all its pages it is x
  pub begun_whole : k ≡ p.alpha → begun_frame p x y k ≡ x
  unfolding begun_frame frame_bytes
  begun_whole e = rw e (rw (take_all (p.alpha * page_bytes p) x (omega arith), drop_of_length-le y {i = p.alpha * page_bytes p} (omega arith)) (append-nil x))

  -- its pages
  pub page_new : (j : ℕ) → j < k → page p (begun_frame p x y k) j ≡ page p x j
  unfolding begun_frame page part
  page_new j h =
      let n : j * page_bytes p + page_bytes p ≤ k * page_bytes p = next (page_bytes p) j k h in
      front (page_bytes p) (j * page_bytes p) (take (k * page_bytes p) x) (drop (k * page_bytes p) y) (rw (length-take-le (k * page_bytes p) x (omega (arith, reach, wx))) n)
      ∙ window (page_bytes p) (k * page_bytes p) (j * page_bytes p) x n

  pub page_old : (j : ℕ) → k ≤ j → page p (begun_frame p x y k) j ≡ page p y j
  unfolding begun_frame page part
  page_old j h =
      let e : j * page_bytes p ≡ k * page_bytes p + (j * page_bytes p - k * page_bytes p) = omega (arith, mul-le-mul_right (page_bytes p) h) in
      rw (e, ← drop-drop, drop_at (take (k * page_bytes p) x) (drop (k * page_bytes p) y) (k * page_bytes p) (length-take-le (k * page_bytes p) x (omega (arith, reach, wx))), drop-drop)

-- on an erased frame it is a good frame, and holds nothing until it is whole
module _ (p : Params) (z : Sizes p) (v c : ℕ) (x y : List ℕ) (k : ℕ) (sheet : Sheet p v c x) (wy : length y ≡ frame_bytes p) (blank : all_are 255 y ≡ true) (some : 0 < k) (few : k ≤ p.alpha) where
  spare_new : (j : ℕ) → j < k → spare p (begun_frame p x y k) j ≡ spare_bytes c j sheet.stamp v
  unfolding spare
  spare_new j h = rw (page_new p x y k few sheet.whole wy j h) (unfold spare in sheet.spares j (omega arith))

  rest_blank : (j : ℕ) → k ≤ j → all_are 255 (page p (begun_frame p x y k) j) ≡ true
  rest_blank j h = rw (page_old p x y k few sheet.whole wy j h) (unfold page in all_are_part 255 (page_bytes p) j y blank)

  pub used_is_lem : used_pages p (begun_frame p x y k) ≡ k
  unfolding used_pages
  used_is_lem =
      count_is p.alpha k _ few (λ j h. right_used p (begun_frame p x y k) j c sheet.stamp v (spare_new j h)) (λ j a h. page_not p (begun_frame p x y k) j (rest_blank j a))

  pub begun_held : held p (begun_frame p x y k) ≡ c
  begun_held = right_held p (begun_frame p x y k) c sheet.stamp v (spare_new 0 some) sheet.small

  pub begun_stamp : stamp_of p (begun_frame p x y k) ≡ sheet.stamp
  unfolding stamp_of
  begun_stamp = right_stamp p (begun_frame p x y k) 0 c sheet.stamp v (spare_new 0 some) sheet.early

  pub begun_good : (r : ℕ) → c < p.C → region_of p c ≡ r → GoodFrame p r v (begun_frame p x y k)
  begun_good r low mine =
      record {
        on = right_programmed p (begun_frame p x y k) c sheet.stamp v (spare_new 0 some);
        low = rw begun_held low;
        mine = rw begun_held mine;
        spares = λ j m h. rw (begun_held, begun_stamp) (spare_new j (omega (arith, m, used_is_lem)));
        blank = λ j m h. rest_blank j (omega (arith, m, used_is_lem));
      }

  -- it "is never valid and hides no earlier frame"
  pub begun_none : k < p.alpha → (d : ℕ) → holds p (begun_frame p x y k) d ≡ false
  unfolding holds whole
  begun_none h d = rw (page_not p (begun_frame p x y k) (p.alpha - 1) (rest_blank (p.alpha - 1) (omega arith)))

-- ---- on the chip

-- a paste of m bytes is one of w bytes, the last of which stand there already
pasted : (d x : List ℕ) (a m w : ℕ) → m ≤ w → a + w ≤ length d → paste d a x m ≡ take a d ++ (take m x ++ drop m (take w (drop a d))) ++ drop (a + w) d
pasted d x a m w h fit =
    let i : m ≤ length (take w (drop a d)) = simp (length-take, length-drop) (omega arith) in
    let t : drop m (take w (drop a d)) ++ drop w (drop a d) ≡ drop m (drop a d) =
    sym (drop-append-le m (take w (drop a d)) (drop w (drop a d)) i) ∙ ap (λ (l : List ℕ). drop m l) (take-append-drop w (drop a d)) in
    rw (← drop-drop w a d, ← drop-drop m a d, ← t) (simp append_assoc)

module _ (p : Params) (chip x : List ℕ) (n f k : ℕ) (fits : n * block_bytes p + block_bytes p ≤ length chip) (wx : length x ≡ frame_bytes p) (low : f < frames p) (few : k ≤ p.alpha) where
  -- the first k operations of a frame put it there
  pub begun_put : replay_chip p chip (frame_ops p n f x k) ≡ put_part (frame_bytes p) (n * frames p + f) (begun_frame p x (part (frame_bytes p) (n * frames p + f) chip) k) chip
  unfolding put_part begun_frame part
  begun_put =
      let a = (n * frames p + f) * frame_bytes p in
      let h : k * page_bytes p ≤ frame_bytes p = unfold frame_bytes in mul-le-mul_right (page_bytes p) few in
      let fit = outer_fits p chip x n f fits wx low in
      frame_run p chip x n f fit wx k few ∙ pasted chip x ((n * frames p + f) * frame_bytes p) (k * page_bytes p) (frame_bytes p) h fit

  -- seen by blocks
  pub begun_ran : Ran p chip (replay_chip p chip (frame_ops p n f x k)) n (put_part (frame_bytes p) f (begun_frame p x (frame p (block p chip n) f) k) (block p chip n))
  begun_ran =
      record {
        here = rw chip_is_lem (unfold block in put_same (block_bytes p) n _ chip fits whole_block);
        else = λ m ne. rw chip_is_lem (unfold block in put_other (block_bytes p) n _ chip fits whole_block m ne);
        size = rw chip_is_lem (put_length (block_bytes p) n _ chip fits whole_block);
      }
    where
      old_frame : part (frame_bytes p) (n * frames p + f) chip ≡ frame p (block p chip n) f
      old_frame = unfold frame block block_bytes in sym (part_part (frame_bytes p) (frames p) n f chip low)

      block_is : length (block p chip n) ≡ block_bytes p
      block_is = block_size p chip n fits

      inner : f * frame_bytes p + frame_bytes p ≤ length (block p chip n)
      inner = one_fits p (block p chip n) f block_is low

      size_y : length (begun_frame p x (frame p (block p chip n) f) k) ≡ frame_bytes p
      size_y = begun_size p x (frame p (block p chip n) f) k few wx (unfold frame in part_length (frame_bytes p) f (block p chip n) inner)

      whole_block : length (put_part (frame_bytes p) f (begun_frame p x (frame p (block p chip n) f) k) (block p chip n)) ≡ block_bytes p
      whole_block = put_length (frame_bytes p) f _ (block p chip n) inner size_y ∙ block_is

      chip_is_lem : replay_chip p chip (frame_ops p n f x k) ≡ put_part (block_bytes p) n (put_part (frame_bytes p) f (begun_frame p x (frame p (block p chip n) f) k) (block p chip n)) chip
      chip_is_lem =
          begun_put ∙ ap (λ y. put_part (frame_bytes p) (n * frames p + f) (begun_frame p x y k) chip) old_frame
          ∙ put_is p chip (begun_frame p x (frame p (block p chip n) f) k) n f fits size_y low
