-- The first k pages of the copies, frame by frame. While pages are left, all frames so far are whole, so that the next copy finds the chip that a plain reclaim
-- finds; once none is left, no frame adds a page.
-- Assumes nothing.
use mathlib.Core.Path.{◌≡◌, refl, sym, ap, ◌∙◌}
use mathlib.Core.Bool.{Bool, true, false}
use mathlib.Core.List.{List, [], ◌∷◌, ◌++◌}
use Prim.Native.Nat.{ℕ, ◌+◌, ◌-◌, ◌*◌, ◌≤◌, ◌<◌, min}
use native.Mathlib.Nat.{add-zero, zero-add}
use native.Mathlib.Omega.{arith}
use native.Mathlib.Decide.{dec_le, dec_lt}
use lib.ListN.{length, take, length-append}
use lib.Seq.{take_all, take-nil}
use Rattle.lists.specs.Below.{join_below, keep_below}
use Rattle.lists.proofs.Lists.{take_append}
use Rattle.rules.specs.declared.Params.{Params}
use Rattle.rules.specs.Parameters.{frames}
use Rattle.rules.specs.Pages.{block, frame}
use Rattle.rules.specs.Traces.{Op, replay_chip, frame_ops, frames_ops}
use Rattle.rules.proofs.Chip.{replay_append}
use Rattle.starts.proofs.Prefixes.{frame_length, frames_length, take_frame}
use Rattle.write_reclaim.specs.Moves.{Between, CopyAsked, Whole, marked_frames}
use Rattle.write_reclaim.proofs.Kept as kept
use Rattle.cut_copies.specs.Turns.{TurnAsked, TurnMade}

-- the first m operations of a frame are those of its first pages
pub take_least : (p : Params) (n f : ℕ) (x : List ℕ) (m k : ℕ) → take m (frame_ops p n f x k) ≡ frame_ops p n f x (min m k)
take_least p n f x m k = go (dec_le m k)
  where
    go : Dec (m ≤ k) → take m (frame_ops p n f x k) ≡ frame_ops p n f x (min m k)
    go (yes h) = let e : min m k ≡ m = omega arith in rw e (take_frame p n f x k m h)
    go (no h) = let e : min m k ≡ k = omega arith in rw e (take_all m (frame_ops p n f x k) (omega (arith, frame_length p n f x k)))

-- where none is left, no page is programmed
no_page : (p : Params) (chip : List ℕ) (n f : ℕ) (x : List ℕ) (m k : ℕ) → m ≡ 0 → replay_chip p chip (frame_ops p n f x (min m k)) ≡ chip
unfolding frame_ops join_below replay_chip
no_page p chip n f x m k e = let z : min m k ≡ 0 = omega arith in rw z

-- a turn, by whether a page was left
module _ (p : Params) (chip : List ℕ) (o n f j k : ℕ) where
  pub turn_no : (t : Bool) → t ≡ false → TurnMade p chip o n f j k t chip 0
  turn_no t e = record { chip_is = rw e; count = rw e }

  pub turn_past : (t : Bool) → t ≡ true → k ≤ j * p.alpha → TurnMade p chip o n f j k t chip 1
  turn_past t e h =
      record { chip_is = rw e (sym (no_page p chip n j (frame p (block p chip o) f) (k - j * p.alpha) p.alpha (omega arith))); count = rw e }

  pub turn_yes : (t : Bool) → t ≡ true → (made m : ℕ) → made ≡ j * p.alpha → m ≡ min (k - made) p.alpha → (chip₁ : List ℕ)
      → chip₁ ≡ replay_chip p chip (frame_ops p n j (frame p (block p chip o) f) m) → TurnMade p chip o n f j k t chip₁ 1
  turn_yes t e made m em el chip₁ x = record { chip_is = x ∙ rw (e, el, em); count = rw e }

module _ (p : Params) (chip : List ℕ) (o n : ℕ) (a : Between p chip o n) (fine : ℕ → Bool) (k : ℕ) where
  abbrev blk : List ℕ
  blk = block p chip o

  abbrev xs : ℕ → List (List ℕ)
  xs m = kept.xs p chip o n a fine m

  -- those of the copies' operations that are made after m turns
  abbrev ops : ℕ → List Op
  ops m = take k (frames_ops p n 0 (xs m))

  -- after m turns
  pub record So (m : ℕ) (l : List ℕ) (j : ℕ) : Type 0 where
    pub chip_is : l ≡ replay_chip p chip (ops m)
    pub count : j ≡ length (xs m)

  pub start : So 0 chip 0
  unfolding keep_below frames_ops replay_chip
  start = record { chip_is = rw (take-nil k); count = refl }

  whole : (m : ℕ) → length (xs m) * p.alpha < k → ops m ≡ frames_ops p n 0 (xs m)
  whole m h = take_all k (frames_ops p n 0 (xs m)) (omega (arith, frames_length p n 0 (xs m)))

  more : (m : ℕ) → fine m ≡ true → ops (m + 1) ≡ ops m ++ frame_ops p n (length (xs m)) (frame p blk m) (min (k - length (xs m) * p.alpha) p.alpha)
  more m t =
      rw (
        kept.more_yes p chip o n a fine m t,
        kept.frames_snoc p n 0 (xs m) (frame p blk m),
        take_append k (frames_ops p n 0 (xs m)),
        frames_length p n 0 (xs m),
        zero-add (length (xs m)),
        take_least p n (length (xs m)) (frame p blk m),
      )

  module _ (m : ℕ) (h : m < frames p) (l : List ℕ) (j : ℕ) (so : So m l j) where
    few : j ≤ m
    few = rw so.count (kept.kept_few p chip o n a fine m)

    -- while pages are left, the frames so far are whole
    after : j * p.alpha < k → l ≡ kept.after p chip o n a fine m
    after g = so.chip_is ∙ ap (replay_chip p chip) (whole m (rw so.count at g))

    source : j * p.alpha < k → block p l o ≡ blk
    source g = ap (λ (t : List ℕ). block p t o) (after g) ∙ kept.source_same p chip o n a fine m (omega arith)

    copy_asked : j * p.alpha < k → CopyAsked p l o n m j
    copy_asked g =
        let w : Whole p l = record { fine = a.whole.fine; size = ap length (after g) ∙ kept.after_length p chip o n a fine m (omega arith) ∙ a.whole.size } in
        record {
          from = record { whole = w; block = a.from; frame = h };
          to = record { whole = w; block = a.to; frame = omega (arith, few) };
          apart = a.apart;
          clean = rw (after g, so.count) (kept.next_clean p chip o n a fine m h);
        }

    pub turn_asked : TurnAsked p l o n m j k
    turn_asked = record { fine = a.whole.fine; frame = h; few = few; copy = copy_asked }

    module _ (l' : List ℕ) (x : ℕ) (w : TurnMade p l o n m j k (fine m) l' x) where
      -- the pages of this turn come behind those of the turns before
      added : (fine m ≡ true) → l' ≡ replay_chip p chip (ops (m + 1))
      added t = w.chip_is ∙ rw t (go (dec_lt (j * p.alpha) k))
        where
          pages : List ℕ → List Op
          pages b = frame_ops p n j (frame p b m) (min (k - j * p.alpha) p.alpha)

          behind : replay_chip p l (pages blk) ≡ replay_chip p chip (ops (m + 1))
          behind = rw (more m t, replay_append p chip (ops m), so.chip_is, so.count)

          go : Dec (j * p.alpha < k) → replay_chip p l (pages (block p l o)) ≡ replay_chip p chip (ops (m + 1))
          go (yes g) = ap (λ (b : List ℕ). replay_chip p l (pages b)) (source g) ∙ behind
          go (no g) =
              let z : k - j * p.alpha ≡ 0 = omega arith in
              no_page p l n j (frame p (block p l o) m) (k - j * p.alpha) p.alpha z
              ∙ sym (no_page p l n j (frame p blk m) (k - j * p.alpha) p.alpha z)
              ∙ behind

      pub turn : So (m + 1) l' (j + x)
      turn = go (fine m) refl
        where
          go : (t : Bool) → fine m ≡ t → So (m + 1) l' (j + x)
          go true t =
              record {
                chip_is = added t;
                count = rw (kept.more_yes p chip o n a fine m t, length-append (xs m) (frame p blk m ∷ []), w.count, t, so.count);
              }
          go false t =
              let e = kept.more_no p chip o n a fine m t in
              record { chip_is = w.chip_is ∙ rw (t, e, so.chip_is); count = rw (e, w.count, t, so.count, add-zero) }

      pub turn_few : j + x ≤ m + 1
      turn_few = omega (arith, turn.count, kept.kept_few p chip o n a fine (m + 1))

  pub done : (m : ℕ) (l : List ℕ) (j : ℕ) → m ≡ frames p → So m l j → l ≡ replay_chip p chip (take k (frames_ops p n 0 (marked_frames p blk fine)))
  done m l j e so = so.chip_is ∙ rw e
