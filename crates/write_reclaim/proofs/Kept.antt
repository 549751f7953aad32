-- The frames of a block that pass a test, copied one after the other to an erased block: what stands there after so many turns, and what the next one finds.
-- Assumes nothing.
use mathlib.Core.Path.{◌≡◌, refl, sym, ap, ◌∙◌}
use mathlib.Core.Bool.{Bool, true, false}
use mathlib.Core.List.{List, [], ◌∷◌, ◌++◌, map, append_assoc, append-nil}
use Prim.Native.Nat.{ℕ, suc, ◌+◌, ◌*◌, ◌≤◌, ◌<◌}
use native.Mathlib.Numerals.{add-one}
use native.Mathlib.Nat.{add-zero}
use native.Mathlib.Omega.{arith}
use lib.ListN.{length, length-map}
use Rattle.lists.specs.Below.{count_below, keep_below}
use Rattle.lists.proofs.Tests.{count_le}
use Rattle.lists.proofs.Ranks.{keep_length, map_at, keep_nth}
use Rattle.rules.specs.declared.Params.{Params}
use Rattle.rules.specs.Parameters.{frames, block_bytes}
use Rattle.rules.specs.Pages.{block, frame, erased}
use Rattle.rules.specs.Traces.{replay_chip, frame_ops, frames_ops}
use Rattle.rules.specs.Machine.{put_frames}
use Rattle.rules.proofs.Sizes.{sizes}
use Rattle.rules.proofs.Replays.{Ran, Wholes, frames_ran, block_size, put_frames_else}
use Rattle.write_reclaim.specs.Moves.{OnChip, Between}
use Rattle.write_reclaim.proofs.Places.{block_fits, frame_whole}

-- ---- one frame more

map_snoc : (g : ℕ → List ℕ) (xs : List ℕ) (i : ℕ) → map g (xs ++ (i ∷ [])) ≡ map g xs ++ (g i ∷ [])
map_snoc g [] i = refl
map_snoc g (x ∷ xs) i = ap (λ (l : List (List ℕ)). g x ∷ l) (map_snoc g xs i)

pub frames_snoc : (p : Params) (n to : ℕ) (xs : List (List ℕ)) (x : List ℕ) → frames_ops p n to (xs ++ (x ∷ [])) ≡ frames_ops p n to xs ++ frame_ops p n (to + length xs) x p.alpha
unfolding frames_ops
frames_snoc p n to [] x = rw (add-zero, append-nil)
frames_snoc p n to (y ∷ xs) x =
    let e : suc to + length xs ≡ to + suc (length xs) = omega arith in
    rw (frames_snoc p n (suc to) xs x, e) (sym (append_assoc (frame_ops p n to y p.alpha) (frames_ops p n (suc to) xs) _))

-- ---- the frames of block o that pass, copied to block n

module _ (p : Params) (chip : List ℕ) (o n : ℕ) (a : Between p chip o n) (fine : ℕ → Bool) where
  abbrev blk : List ℕ
  blk = block p chip o

  -- the frames copied after m turns, and the chip then
  abbrev pub xs : ℕ → List (List ℕ)
  xs m = map (frame p blk) (keep_below m fine)

  abbrev pub after : ℕ → List ℕ
  after m = replay_chip p chip (frames_ops p n 0 (xs m))

  from_in : (f : ℕ) → f < frames p → OnChip p chip o f
  from_in f h = record { whole = a.whole; block = a.from; frame = h }

  to_in : (k : ℕ) → k < frames p → OnChip p chip n k
  to_in k h = record { whole = a.whole; block = a.to; frame = h }

  n_fits : n * block_bytes p + block_bytes p ≤ length chip
  n_fits = block_fits p chip n 0 (to_in 0 (sizes p a.whole.fine).some)

  kept_length : (m : ℕ) → length (xs m) ≡ count_below m fine
  kept_length m = length-map (keep_below m fine) (frame p blk) ∙ keep_length m fine

  pub kept_few : (m : ℕ) → length (xs m) ≤ m
  kept_few m = rw (kept_length m) (count_le m fine)

  whole : (m : ℕ) → m ≤ frames p → Wholes p (xs m)
  whole m h i k =
      let j : i < count_below m fine = rw (← kept_length m) k in
      let l : i < length (keep_below m fine) = rw (keep_length m fine) j in
      let w = keep_nth m fine i 0 j in
      rw (map_at (frame p blk) (keep_below m fine) i 0 [] l) (frame_whole p chip o _ (from_in _ (omega (arith, w.0))))

  ran : (m : ℕ) → m ≤ frames p → Ran p chip (after m) n (put_frames p 0 (xs m) (block p chip n))
  ran m h = frames_ran p n (xs m) 0 chip n_fits (whole m h) (omega (arith, kept_few m))

  pub after_length : (m : ℕ) → m ≤ frames p → length (after m) ≡ length chip
  after_length m h = (ran m h).size

  pub source_same : (m : ℕ) → m ≤ frames p → block p (after m) o ≡ blk
  source_same m h = (ran m h).else o a.apart

  pub next_clean : (m : ℕ) → m < frames p → erased (frame p (block p (after m) n) (length (xs m))) ≡ true
  next_clean m h =
      rw (
        (ran m (omega arith)).here,
        put_frames_else p (xs m) 0 (block p chip n) (block_size p chip n n_fits) (whole m (omega arith)) (omega (arith, kept_few m))
            (length (xs m)) (λ x y. omega arith),
      )
      (a.clean (length (xs m)) (omega (arith, kept_few m)))

  pub more_yes : (m : ℕ) → fine m ≡ true → xs (m + 1) ≡ xs m ++ (frame p blk m ∷ [])
  unfolding keep_below
  more_yes m t = rw (add-one, t) (map_snoc (frame p blk) (keep_below m fine) m)

  pub more_no : (m : ℕ) → fine m ≡ false → xs (m + 1) ≡ xs m
  unfolding keep_below
  more_no m t = rw (add-one, t, append-nil)
