-- The block that a reclaim's copies go to, once some are made and the next is begun: its first frames are right, the rest is erased, it is not full, and the whole frames that it holds are copies.
-- Then the chip, on which only that block has changed.
-- Assumes nothing.
use mathlib.Core.Path.{◌≡◌, sym, ap, ◌∙◌}
use Prim.Native.Nat.{ℕ, suc, ◌+◌, ◌*◌, ◌≤◌, ◌<◌}
use native.Mathlib.Nat.{zero-add}
use native.Mathlib.Omega.{arith}
use native.Mathlib.Decide.{dec_lt, ℕ_discrete}
use mathlib.Core.Bool.{true, false}
use mathlib.Core.List.{List, []}
use borrow.Author.Tests.{ne_eqb}
use lib.ListN.{get_or, length, length-take, take}
use lib.Seq.{get_or-take}
use Rattle.lists.specs.Parts.{all_are, part, put_part}
use Rattle.lists.proofs.Parts.{part_length, part_part, put_length, put_other, put_same}
use Rattle.lists.proofs.Tests.{never}
use Rattle.rules.specs.declared.Params.{Params}
use Rattle.rules.specs.Parameters.{block_bytes, frame_bytes, frames}
use Rattle.rules.specs.Pages.{block, frame, held, holds, is_full, stamp_of}
use Rattle.rules.specs.Orderly.{block_rule}
use Rattle.rules.specs.Traces.{frame_ops, frames_ops, replay_chip}
use Rattle.rules.specs.Machine.{erased_block, put_frames}
use Rattle.rules.proofs.Chip.{put_is, replay_append}
use Rattle.rules.proofs.FramePut.{Sheet}
use Rattle.rules.proofs.Frames.{erased_holds}
use Rattle.rules.proofs.Opens.{fresh_frame}
use Rattle.rules.proofs.RegionFacts.{GoodFrame, UpTo, block_out, good_all, good_stamp, up_to_filled}
use Rattle.rules.proofs.Replays.{Ran, Wholes, frames_ran, fresh_size, one_fits, put_frames_else, put_frames_new, put_frames_size}
use Rattle.rules.proofs.Sizes.{Sizes}
use Rattle.starts.proofs.Begun.{begun_good, begun_none, begun_put, begun_size, begun_whole, begun_frame}
use Rattle.starts.proofs.Prefixes.{take_frames}

-- a good frame that holds something is a sheet
pub good_sheet : (p : Params) → Sizes p → (r v : ℕ) (fr : List ℕ) → GoodFrame p r v fr → (c : ℕ) → length fr ≡ frame_bytes p → holds p fr c ≡ true → Sheet p v (held p fr) fr
good_sheet p z r v fr good c n h =
    record { whole = n; small = omega (arith, good.low, z.clusters); stamp = stamp_of p fr; early = good_stamp p z r v fr good; spares = good_all p z r v fr good c h }

-- the first i frames of a list of good sheets, and k pages of the next, on an erased block
module _ (p : Params) (z : Sizes p) (r v : ℕ) (xs : List (List ℕ)) (sizes : Wholes p xs) (fit : length xs < frames p)
    (good : (j : ℕ) → j < length xs → GoodFrame p r v (get_or xs j [])) (sheets : (j : ℕ) → j < length xs → Sheet p v (held p (get_or xs j [])) (get_or xs j []))
    (i k : ℕ) (low : i < length xs) (few : k ≤ p.alpha) where
  pub base : List ℕ
  base = put_frames p 0 (take i xs) (erased_block p)

  pub copy : List ℕ
  copy = begun_frame p (get_or xs i []) (frame p base i) k

  pub part_block : List ℕ
  part_block = put_part (frame_bytes p) i copy base

  take_size : length (take i xs) ≡ i
  take_size = simp length-take (omega arith)

  firsts : Wholes p (take i xs)
  firsts j h = let a : j < i = omega (arith, h, take_size) in rw (get_or-take i xs j [] a) (sizes j (omega arith))

  base_size : length base ≡ block_bytes p
  unfolding base
  base_size = put_frames_size p (take i xs) 0 (erased_block p) (fresh_size p) firsts (omega (arith, take_size))

  base_new : (j : ℕ) → j < i → frame p base j ≡ get_or xs j []
  unfolding base
  base_new j h =
      sym (ap (frame p (put_frames p 0 (take i xs) (erased_block p))) (zero-add j))
      ∙ put_frames_new p (take i xs) 0 (erased_block p) (fresh_size p) firsts (omega (arith, take_size)) j (omega (arith, take_size))
      ∙ get_or-take i xs j [] h

  base_rest : (j : ℕ) → i ≤ j → all_are 255 (frame p base j) ≡ true
  unfolding base
  base_rest j h = rw (put_frames_else p (take i xs) 0 (erased_block p) (fresh_size p) firsts (omega (arith, take_size)) j (λ a b. omega (arith, take_size))) (fresh_frame p j)

  base_frame : length (frame p base i) ≡ frame_bytes p
  unfolding frame
  base_frame = part_length (frame_bytes p) i base (one_fits p base i base_size (omega arith))

  copy_size : length copy ≡ frame_bytes p
  unfolding copy
  copy_size = begun_size p (get_or xs i []) (frame p base i) k few (sizes i low) base_frame

  part_here : frame p part_block i ≡ copy
  unfolding part_block frame
  part_here = put_same (frame_bytes p) i copy base (one_fits p base i base_size (omega arith)) copy_size

  part_else : (j : ℕ) → (j ≡ i → ⊥) → frame p part_block j ≡ frame p base j
  unfolding part_block frame
  part_else j ne = put_other (frame_bytes p) i copy base (one_fits p base i base_size (omega arith)) copy_size j ne

  -- with a page of it the next frame is programmed too
  pub part_upto : 0 < k → UpTo p r v (suc i) part_block
  part_upto some = record { front = λ f a b. front f a (ℕ_discrete f i); rest = λ f a b. rw (part_else f (λ e. omega (arith, a, e))) (base_rest f (omega arith)) }
    where
      front : (f : ℕ) → f < suc i → Dec (f ≡ i) → GoodFrame p r v (frame p part_block f)
      front f a (yes e) =
          rw (e, part_here)
          (unfold copy in begun_good p z v (held p (get_or xs i [])) (get_or xs i []) (frame p base i) k (sheets i low) base_frame (base_rest i (omega arith)) some few r (good i low).low (good i low).mine)
      front f a (no e) = rw (part_else f e, base_new f (omega arith)) (good f (omega arith))

  pub part_rule : 0 < k → block_rule p r v part_block ≡ true
  part_rule some = let e = up_to_filled p z r v (suc i) part_block (omega arith) (part_upto some) in block_out p r v part_block (rw e (omega arith, part_upto some))

  pub part_open : 0 < k → is_full p part_block ≡ false
  unfolding is_full
  part_open some = rw (up_to_filled p z r v (suc i) part_block (omega arith) (part_upto some)) (ne_eqb (suc i) (frames p) (λ e. omega arith))

  -- what it holds is of the list
  pub part_holds : 0 < k → (f c : ℕ) → f < frames p → holds p (frame p part_block f) c ≡ true → (j : ℕ) × (j < length xs) × (frame p part_block f ≡ get_or xs j [])
  part_holds some f c h e = go (ℕ_discrete f i) (dec_lt f i)
    where
      whole : Dec (k < p.alpha) → holds p copy c ≡ true → (j : ℕ) × (j < length xs) × (copy ≡ get_or xs j [])
      whole (yes a) e = absurd (never e (unfold copy in begun_none p z v (held p (get_or xs i [])) (get_or xs i []) (frame p base i) k (sheets i low) base_frame (base_rest i (omega arith)) some few a c))
      whole (no a) e = (i, low, unfold copy in begun_whole p (get_or xs i []) (frame p base i) k few (sizes i low) base_frame (omega arith))

      go : Dec (f ≡ i) → Dec (f < i) → (j : ℕ) × (j < length xs) × (frame p part_block f ≡ get_or xs j [])
      go (yes a) d =
          let s : frame p part_block f ≡ copy = ap (frame p part_block) a ∙ part_here in
          let w = whole (dec_lt k p.alpha) (sym (ap (λ (y : List ℕ). holds p y c) s) ∙ e) in
          (w.0, w.1, s ∙ w.2)
      go (no a) (yes d) = (f, omega arith, part_else f a ∙ base_new f d)
      go (no a) (no d) = absurd (never e (erased_holds p (frame p part_block f) c (rw (part_else f a) (base_rest f (omega arith)))))

  -- ---- on the chip

  module _ (chip : List ℕ) (n : ℕ) (fits : n * block_bytes p + block_bytes p ≤ length chip) (fresh : block p chip n ≡ erased_block p) where
    pub before : List ℕ
    before = replay_chip p chip (frames_ops p n 0 (take i xs))

    ran : Ran p chip before n (put_frames p 0 (take i xs) (block p chip n))
    unfolding before
    ran = frames_ran p n (take i xs) 0 chip fits firsts (omega (arith, take_size))

    -- the operations so far, and their chip
    pub after_copies : replay_chip p chip (take (i * p.alpha + k) (frames_ops p n 0 xs)) ≡ replay_chip p before (frame_ops p n i (get_or xs i []) k)
    unfolding before
    after_copies =
        let s : 0 + i ≡ i = omega arith in
        ap (replay_chip p chip) (take_frames p n xs 0 i k low few) ∙ rw s (replay_append p chip (frames_ops p n 0 (take i xs)) (frame_ops p n i (get_or xs i []) k))

    before_size : n * block_bytes p + block_bytes p ≤ length before
    before_size = rw ran.size fits

    here_base : block p before n ≡ base
    unfolding base
    here_base = ran.here ∙ ap (put_frames p 0 (take i xs)) fresh

    same_part : part (frame_bytes p) (n * frames p + i) before ≡ frame p base i
    same_part =
        let e : part (frame_bytes p) i (block p before n) ≡ part (frame_bytes p) (n * frames p + i) before = unfold block block_bytes in part_part (frame_bytes p) (frames p) n i before (omega arith) in
        sym e ∙ unfold frame in ap (part (frame_bytes p) i) here_base

    chip_is_lem : replay_chip p before (frame_ops p n i (get_or xs i []) k) ≡ put_part (block_bytes p) n part_block before
    chip_is_lem =
        begun_put p before (get_or xs i []) n i k before_size (sizes i low) (omega arith) few
        ∙ ap (λ (y : List ℕ). put_part (frame_bytes p) (n * frames p + i) (begun_frame p (get_or xs i []) y k) before) same_part
        ∙ whole_put
      where
        whole_put : put_part (frame_bytes p) (n * frames p + i) (begun_frame p (get_or xs i []) (frame p base i) k) before ≡ put_part (block_bytes p) n part_block before
        whole_put =
            unfold copy part_block in (put_is p before copy n i before_size copy_size (omega arith)
            ∙ ap (λ (y : List ℕ). put_part (block_bytes p) n (put_part (frame_bytes p) i copy y) before) here_base)

    part_size : length part_block ≡ block_bytes p
    unfolding part_block
    part_size = put_length (frame_bytes p) i copy base (one_fits p base i base_size (omega arith)) copy_size ∙ base_size

    else_same : (m : ℕ) → (m ≡ n → ⊥) → block p (put_part (block_bytes p) n part_block before) m ≡ block p before m
    unfolding block
    else_same m ne = put_other (block_bytes p) n part_block before before_size part_size m ne

    -- block n is the part block, every other is as it was
    pub cut_ran : Ran p chip (replay_chip p chip (take (i * p.alpha + k) (frames_ops p n 0 xs))) n part_block
    cut_ran =
        record {
          here = rw (after_copies, chip_is_lem) (unfold block in put_same (block_bytes p) n part_block before before_size part_size);
          else = λ m ne. rw (after_copies, chip_is_lem) (else_same m ne ∙ ran.else m ne);
          size = rw (after_copies, chip_is_lem) (put_length (block_bytes p) n part_block before before_size part_size ∙ ran.size);
        }
