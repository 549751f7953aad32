-- The frames of a block from the first on that fit, up to one that does not: the block is a used one with right stamps exactly if there is such a frame and
-- everything after them is erased. A frame that fits is programmed and an erased one is not, so no other number of frames can be the programmed ones.
-- Assumes nothing.
use mathlib.Core.Path.{◌≡◌, sym, ◌∙◌}
use mathlib.Core.Logic.{◌⊎◌, inl, inr}
use mathlib.Core.Bool.{Bool, ◌&&◌, ◌||◌, cond, false, not, true}
use mathlib.Core.List.{List}
use Prim.Native.Nat.{ℕ, ◌*◌, ◌<◌, ◌≤◌}
use native.Mathlib.Decide.{dec_lt, ℕ_discrete}
use native.Mathlib.Omega.{arith}
use lib.Dec.{eqb, leb, ltb}
use lib.ListN.{drop, length}
use borrow.Author.Tests.{le-leb, le-ltb, lt-ltb, ltb-true, ne_eqb, not-false, not-true}
use Rattle.lists.specs.Below.{all_below}
use Rattle.lists.specs.Parts.{all_are}
use Rattle.lists.proofs.Tests.{all_at, all_below_intro, and_intro, and_left, and_right, never, or_right, so}
use Rattle.chip_blocks.proofs.Rest.{parts_back, parts_from}
use Rattle.rules.specs.declared.Params.{Params}
use Rattle.rules.specs.Orderly.{block_rule, good_frame, stamps_to}
use Rattle.rules.specs.Pages.{filled, frame, programmed, stamp_of}
use Rattle.loops.proofs.Ranges.{Stops}
use Rattle.chip_blocks.specs.First.{FirstFrames, fit_frame}
use Rattle.rules.specs.Parameters.{block_bytes, frame_bytes, frames}
use Rattle.rules.proofs.Frames.{erased_not}
use Rattle.rules.proofs.RegionFacts.{GoodFrame, UpTo, block_in, filled_le, good_frame_lem, good_frame_back, good_stamp, up_to, up_to_back, up_to_filled}
use Rattle.rules.proofs.Sizes.{Sizes}

-- ---- the frames that fit

module _ (p : Params) (z : Sizes p) (r v last : ℕ) (blk : List ℕ) (size : length blk ≡ block_bytes p) (k : ℕ) (le : k ≤ frames p)
    (good : all_below k (λ f. fit_frame p r v last (frame p blk f)) ≡ true) (stop : k < frames p → fit_frame p r v last (frame p blk k) ≡ false) where
  -- a used block, with stamps up to `last`
  abbrev used_to : Bool
  used_to = block_rule p r v blk && stamps_to p last blk

  good_at : (f : ℕ) → f < k → GoodFrame p r v (frame p blk f)
  unfolding fit_frame
  good_at f h = good_frame_lem p r v (frame p blk f) (and_left (good_frame p r v (frame p blk f)) _ (all_at k _ good f h))

  stamp_at_lem : (f : ℕ) → f < k → leb (stamp_of p (frame p blk f)) last ≡ true
  unfolding fit_frame
  stamp_at_lem f h = and_right (good_frame p r v (frame p blk f)) (all_at k _ good f h)

  front_of : used_to ≡ true → UpTo p r v (filled p blk) blk
  unfolding block_rule
  front_of h = up_to p r v (filled p blk) blk (and_right (ltb 0 (filled p blk)) (and_left (block_rule p r v blk) _ h))

  -- a programmed frame of a used block fits
  fits : used_to ≡ true → (f : ℕ) → f < frames p → GoodFrame p r v (frame p blk f) → fit_frame p r v last (frame p blk f) ≡ true
  unfolding fit_frame stamps_to
  fits h f l g =
      let t : leb (stamp_of p (frame p blk f)) last ≡ true = rw g.on at (all_at (frames p) _ (and_right (block_rule p r v blk) h) f l) in
      rw (good_frame_back p r v (frame p blk f) g, t)

  -- a used block has these frames programmed
  pub filled_is : used_to ≡ true → filled p blk ≡ k
  filled_is h = go (front_of h) (dec_lt (filled p blk) k) (dec_lt k (filled p blk))
    where
      go : UpTo p r v (filled p blk) blk → Dec (filled p blk < k) → Dec (k < filled p blk) → filled p blk ≡ k
      go u (yes a) b =
          absurd
          (never (good_at (filled p blk) a).on
          (erased_not p (frame p blk (filled p blk)) (u.rest (filled p blk) (omega arith) (omega arith))))
      go u (no a) (yes b) =
          let in_block : k < frames p = omega (arith, filled_le p blk) in
          absurd (never (fits h k in_block (u.front k b in_block)) (stop in_block))
      go u (no a) (no b) = omega arith

  some_filled : used_to ≡ true → 0 < filled p blk
  unfolding block_rule
  some_filled h = ltb-true 0 (filled p blk) (and_left (ltb 0 (filled p blk)) _ (and_left (block_rule p r v blk) _ h))

  pub none_good : k ≡ 0 → false ≡ used_to
  none_good e = go (so used_to)
    where
      go : (used_to ≡ true) ⊎ (used_to ≡ false) → false ≡ used_to
      go (inl h) = absurd (omega (arith, filled_is h, some_filled h))
      go (inr h) = sym h

  tail : all_are 255 (drop (k * frame_bytes p) blk) ≡ true → UpTo p r v k blk
  unfolding frame
  tail t = record { front = λ f a b. good_at f a; rest = λ f a b. parts_from 255 (frame_bytes p) k blk t f a }

  used_block : (k ≡ 0 → ⊥) → all_are 255 (drop (k * frame_bytes p) blk) ≡ true → block_rule p r v blk ≡ true
  unfolding block_rule
  used_block some t = rw (up_to_filled p z r v k blk le (tail t), lt-ltb 0 k (omega arith)) (up_to_back p r v k blk (tail t))

  used : (k ≡ 0 → ⊥) → all_are 255 (drop (k * frame_bytes p) blk) ≡ true → used_to ≡ true
  used some t = and_intro (used_block some t) stamps
    where
      stamps : stamps_to p last blk ≡ true
      stamps = unfold stamps_to in all_below_intro (frames p) _ (λ f l. go f l (dec_lt f k))
        where
          go : (f : ℕ) → f < frames p → Dec (f < k) → not (programmed p (frame p blk f)) || leb (stamp_of p (frame p blk f)) last ≡ true
          go f l (yes h) = or_right (not (programmed p (frame p blk f))) (stamp_at_lem f h)
          go f l (no h) = rw (erased_not p (frame p blk f) ((tail t).rest f (omega arith) l))

  rest_erased : used_to ≡ true → all_are 255 (drop (k * frame_bytes p) blk) ≡ true
  unfolding block_bytes frame
  rest_erased h =
      let u : UpTo p r v k blk = rw (filled_is h) at (front_of h) in
      parts_back 255 (frame_bytes p) k (frames p) blk le size u.rest

  pub rest_is : (k ≡ 0 → ⊥) → all_are 255 (drop (k * frame_bytes p) blk) ≡ used_to
  rest_is some = go (so (all_are 255 (drop (k * frame_bytes p) blk))) (so used_to)
    where
      go : (all_are 255 (drop (k * frame_bytes p) blk) ≡ true) ⊎ (all_are 255 (drop (k * frame_bytes p) blk) ≡ false) → (used_to ≡ true) ⊎ (used_to ≡ false)
          → all_are 255 (drop (k * frame_bytes p) blk) ≡ used_to
      go (inl t) s = t ∙ sym (used some t)
      go (inr t) (inr h) = t ∙ sym h
      go (inr t) (inl h) = absurd (never (rest_erased h) t)

-- a stamp of 32 bits is never above the largest one
pub all_stamps : (p : Params) → Sizes p → (r v : ℕ) (blk : List ℕ) → block_rule p r v blk && stamps_to p 4294967295 blk ≡ block_rule p r v blk
all_stamps p z r v blk = go (so (block_rule p r v blk))
  where
    stamps : block_rule p r v blk ≡ true → stamps_to p 4294967295 blk ≡ true
    stamps h = unfold stamps_to in all_below_intro (frames p) _ (λ f l. at f l (dec_lt f (filled p blk)))
      where
        u : UpTo p r v (filled p blk) blk
        u = (block_in p r v blk h).1

        at : (f : ℕ) → f < frames p → Dec (f < filled p blk) → not (programmed p (frame p blk f)) || leb (stamp_of p (frame p blk f)) 4294967295 ≡ true
        at f l (yes k) = or_right (not (programmed p (frame p blk f))) (le-leb (stamp_of p (frame p blk f)) 4294967295 (omega (arith, good_stamp p z r v (frame p blk f) (u.front f k l))))
        at f l (no k) = rw (erased_not p (frame p blk f) (u.rest f (omega arith) l))

    go : (block_rule p r v blk ≡ true) ⊎ (block_rule p r v blk ≡ false) → block_rule p r v blk && stamps_to p 4294967295 blk ≡ block_rule p r v blk
    go (inl h) = rw (h, stamps h)
    go (inr h) = rw h

-- a used block has a programmed frame, so that 0 is left for one that is not used
pub used_some : (p : Params) (r v : ℕ) (blk : List ℕ) → not (eqb (cond (block_rule p r v blk) (filled p blk) 0) 0) ≡ block_rule p r v blk
used_some p r v blk = go (so (block_rule p r v blk))
  where
    go : (block_rule p r v blk ≡ true) ⊎ (block_rule p r v blk ≡ false) → not (eqb (cond (block_rule p r v blk) (filled p blk) 0) 0) ≡ block_rule p r v blk
    go (inl h) =
        let some : 0 < filled p blk = ltb-true 0 (filled p blk) (unfold block_rule in and_left (ltb 0 (filled p blk)) _ h) in
        rw (h, ne_eqb (filled p blk) 0 (λ e. omega (arith, some, e)))
    go (inr h) = rw h

-- ---- the first frame that is not programmed

pub free_is : (p : Params) (blk : List ℕ) (from n k : ℕ) {i : ℕ} → n ≡ frames p → Stops from n (λ f. not (programmed p (frame p blk f))) i → from ≤ k → FirstFrames p blk k → i ≡ k
free_is p blk from n k {i} e s low w =
    let above : i < k → ⊥ = λ l. never (w.are i (omega (arith, w.most)) ∙ lt-ltb i k l) (not-true _ (s.here (omega (arith, w.most)))) in
    let below : k < i → ⊥ = λ l. never (not-false _ (s.passed k low l)) (w.are k (omega (arith, s.high)) ∙ le-ltb k k (omega arith)) in
    go (ℕ_discrete i k) above below
  where
    go : Dec (i ≡ k) → (i < k → ⊥) → (k < i → ⊥) → i ≡ k
    go (yes q) above below = q
    go (no q) above below = absurd (go2 (dec_lt i k))
      where
        go2 : Dec (i < k) → ⊥
        go2 (yes l) = above l
        go2 (no l) = below (omega arith)
