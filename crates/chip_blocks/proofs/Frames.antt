-- The blocks of the chip and the frames of a block: where they stand, when one is good, and the last in a place that holds a cluster.
-- Assumes nothing.
use mathlib.Core.Path.{sym, ◌∙◌, ◌≡◌}
use mathlib.Core.Bool.{◌&&◌, Bool, and-false, and-true, false}
use mathlib.Core.List.{List}
use Prim.Native.Nat.{◌%◌, ◌*◌, ◌+◌, ◌-◌, ◌/◌, ◌<◌, ℕ, ◌≤◌}
use native.Mathlib.Nat.{mul-le-mul_right}
use native.Mathlib.Omega.{arith}
use lib.Dec.{eqb}
use lib.ListN.{drop, length, length-drop, take}
use lib.Seq.{take_all}
use borrow.Author.Tests.{eq-eqb, le-leb, le-ltb, lt-leb, lt-ltb, ne_eqb}
use Rattle.lists.specs.Below.{all_true, last_below}
use Rattle.lists.proofs.Parts.{in_place, next, over_place, under_place}
use Rattle.rules.specs.declared.Params.{Params}
use Rattle.rules.specs.Orderly.{good_frame}
use Rattle.rules.specs.Pages.{block, frame, held, holds, last_in, programmed, stamp_of}
use Rattle.rules.specs.Parameters.{block_bytes, chip_bytes, frame_bytes, frames}
use Rattle.rules.specs.Tables.{none}
use Rattle.rules.proofs.TableFacts.{chip_size}
use Rattle.chip_blocks.specs.First.{fit_frame}
use Rattle.loops.proofs.Below.{last_skip}
use Rattle.loops.proofs.Lent.{lent_part}

-- ---- a block of the chip

-- block n ends on the chip
block_fits : (p : Params) (chip : List ℕ) (n : ℕ) → length chip ≡ chip_bytes p → n < p.N → n * block_bytes p + block_bytes p ≤ length chip
block_fits p chip n e h = rw (e, chip_size p) (next (block_bytes p) n p.N h)

pub block_in : (p : Params) (chip : List ℕ) (n w : ℕ) → w ≡ block_bytes p → length chip ≡ chip_bytes p → n < p.N → n * w + w ≤ length chip
block_in p chip n w e k h = rw e (block_fits p chip n k h)

pub block_lent : (p : Params) (chip : List ℕ) (n w : ℕ) → w ≡ block_bytes p → take (n * w + w - n * w) (drop (n * w) chip) ≡ block p chip n
unfolding block
block_lent p chip n w e = lent_part w n chip ∙ rw e

-- ---- a frame of a block

pub frame_in_lem : (p : Params) (f w n : ℕ) → w ≡ frame_bytes p → n ≡ block_bytes p → f < frames p → f * w + w ≤ n
unfolding block_bytes
frame_in_lem p f w n e k h = rw (e, k) (next (frame_bytes p) f (frames p) h)

pub frame_lent : (p : Params) (blk : List ℕ) (f w : ℕ) → w ≡ frame_bytes p → take (f * w + w - f * w) (drop (f * w) blk) ≡ frame p blk f
unfolding frame
frame_lent p blk f w e = lent_part w f blk ∙ rw e

-- ---- a good frame

pub good_high : (p : Params) (r v : ℕ) (fr : List ℕ) (c : ℕ) → c ≡ held p fr → p.C ≤ c → false ≡ good_frame p r v fr
unfolding good_frame all_true
good_high p r v fr c e h = rw (← e, le-ltb c p.C h) (sym (and-false (programmed p fr)))

pub good_other : (p : Params) (r v : ℕ) (fr : List ℕ) (c : ℕ) → c ≡ held p fr → c < p.C → (c % p.mu ≡ r → ⊥) → false ≡ good_frame p r v fr
unfolding good_frame all_true
good_other p r v fr c e h n = rw (← e, lt-ltb c p.C h, ne_eqb (c % p.mu) r n) (sym (and-false (programmed p fr)))

-- and one that fits: with a stamp up to `last`
module _ (p : Params) (r v last : ℕ) (fr : List ℕ) where
  pub fit_not : false ≡ good_frame p r v fr → false ≡ fit_frame p r v last fr
  unfolding fit_frame
  fit_not e = rw (← e)

  module _ (t : ℕ) (e : t ≡ stamp_of p fr) where
    pub fit_late : last < t → false ≡ fit_frame p r v last fr
    unfolding fit_frame
    fit_late h = rw (← e, lt-leb t last h) (sym (and-false (good_frame p r v fr)))

    pub fit_is : (x : Bool) → t ≤ last → x ≡ good_frame p r v fr → x ≡ fit_frame p r v last fr
    unfolding fit_frame
    fit_is x h g = rw (← e, le-leb t last h) (g ∙ sym (and-true (good_frame p r v fr)))

-- ---- the last frame of a place

pub seg_in : (p : Params) (k : ℕ) → k < p.d → k * p.beta + p.beta ≤ frames p
unfolding frames
seg_in p k h = omega (arith, next p.beta k p.d h)

module _ (p : Params) (blk : List ℕ) (k c : ℕ) (some : 1 ≤ p.beta) where
  abbrev pub test : ℕ → Bool
  test f = eqb (f / p.beta) k && holds p (frame p blk f) c

  pub last_start : k < p.d → last_below none (k * p.beta + p.beta) test ≡ last_in p blk k c
  unfolding last_in
  last_start h =
      sym (last_skip none (frames p) (k * p.beta + p.beta) test (seg_in p k h) (λ j x y. rw (ne_eqb (j / p.beta) k (over_place p.beta k j some x))))

  pub last_end : last_below none (k * p.beta) test ≡ none
  unfolding last_below
  last_end = last_skip none (k * p.beta) 0 test (omega arith) (λ j x y. rw (ne_eqb (j / p.beta) k (under_place p.beta k j some y)))

  pub test_is : (f : ℕ) → k * p.beta ≤ f → f < k * p.beta + p.beta → test f ≡ holds p (frame p blk f) c
  test_is f x y = rw (eq-eqb (f / p.beta) k (in_place p.beta k f some x y))

-- ---- the frames from frame k on, in a block of F frames of w bytes

module _ (p : Params) (blk : List ℕ) (k w : ℕ) (le : k ≤ frames p) (size : length blk ≡ block_bytes p) (ew : w ≡ frame_bytes p) where
  pub rest_starts : k * w ≤ length blk
  unfolding block_bytes
  rest_starts = rw (size, ew) (mul-le-mul_right (frame_bytes p) le)

  pub rest_lent : take (length blk - k * w) (drop (k * w) blk) ≡ drop (k * frame_bytes p) blk
  rest_lent = take_all (length blk - k * w) (drop (k * w) blk) (rw length-drop (omega arith)) ∙ rw ew
