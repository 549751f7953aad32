-- A sound block and an erased one, by the first page; a sound one also says there what it names, and by its last frame whether it is full.
-- Assumes nothing.
use mathlib.Core.Path.{◌≡◌}
use mathlib.Core.Logic.{◌⊎◌, inl, inr}
use mathlib.Core.Bool.{true, false, not, ◌||◌}
use mathlib.Core.List.{List}
use Prim.Native.Nat.{ℕ, ◌-◌, ◌<◌}
use native.Mathlib.Nat.{mod-lt}
use lib.Dec.{ltb}
use borrow.Author.Tests.{ltb-true}
use Rattle.lists.specs.Parts.{all_are}
use Rattle.lists.proofs.Joins.{all_are_part}
use Rattle.lists.proofs.Tests.{all_at, and_left, and_right, never, so}
use Rattle.rules.specs.declared.Params.{Params}
use Rattle.rules.specs.Numbers.{region_of}
use Rattle.rules.specs.Parameters.{frame_bytes, frames}
use Rattle.rules.specs.Pages.{block, erased, frame, held, is_full, programmed, vblock_in}
use Rattle.rules.specs.Orderly.{block_rule}
use Rattle.rules.specs.Format.{bad}
use Rattle.rules.specs.Start.{in_use, region_named, sound, sound_rule, vblock_named}
use Rattle.rules.proofs.Frames.{erased_not}
use Rattle.rules.proofs.RegionFacts.{GoodFrame, block_in, last_full}
use Rattle.rules.proofs.Sizes.{Sizes}

-- the region and the virtual block that a block names, as they are read in its first frame fr
module _ (p : Params) (blk fr : List ℕ) (fr-is : fr ≡ frame p blk 0) where
  pub region_read : (c r : ℕ) → c ≡ held p fr → r ≡ region_of p c → r ≡ region_named p blk
  unfolding region_named
  region_read c r e k = rw (← fr-is, ← e) k

  pub vblock_read : (v : ℕ) → v ≡ vblock_in p fr → v ≡ vblock_named p blk
  unfolding vblock_named
  vblock_read v e = rw (← fr-is) e

-- a block whose first frame is programmed is not erased
pub not_erased : (p : Params) (blk : List ℕ) → programmed p (frame p blk 0) ≡ true → erased blk ≡ false
not_erased p blk on = go (so (all_are 255 blk))
  where
    go : (all_are 255 blk ≡ true) ⊎ (all_are 255 blk ≡ false) → all_are 255 blk ≡ false
    go (inl e) = absurd (never on (erased_not p (frame p blk 0) (unfold frame in all_are_part 255 (frame_bytes p) 0 blk e)))
    go (inr e) = e

module _ (p : Params) (z : Sizes p) (blk : List ℕ) (fine : sound p blk ≡ true) where
  rule : block_rule p (region_named p blk) (vblock_named p blk) blk ≡ true
  unfolding sound
  rule = and_right (ltb (vblock_named p blk) p.gamma) fine

  first : GoodFrame p (region_named p blk) (vblock_named p blk) (frame p blk 0)
  first = let b = block_in p (region_named p blk) (vblock_named p blk) blk rule in b.1.front 0 b.0 z.some

  pub first_on : programmed p (frame p blk 0) ≡ true
  first_on = first.on

  pub cluster_low : held p (frame p blk 0) < p.C
  cluster_low = first.low

  pub region_low_lem : region_named p blk < p.mu
  unfolding region_named
  region_low_lem = mod-lt _ z.regions

  pub vblock_low_lem : vblock_named p blk < p.gamma
  unfolding sound
  vblock_low_lem = ltb-true _ _ (and_left (ltb (vblock_named p blk) p.gamma) _ fine)

  pub full_is_lem : is_full p blk ≡ programmed p (frame p blk (frames p - 1))
  unfolding is_full
  full_is_lem = last_full p z (region_named p blk) (vblock_named p blk) blk rule

-- ---- whether a block is in use, by its first page

pub bad_unused : (p : Params) (chip : List ℕ) (n : ℕ) → bad p chip n ≡ true → in_use p chip n ≡ false
unfolding in_use
bad_unused p chip n h = rw h

pub blank_unused : (p : Params) → Sizes p → (chip : List ℕ) (n : ℕ) → (in_use p chip n ≡ true → sound p (block p chip n) ≡ true)
    → programmed p (frame p (block p chip n) 0) ≡ false → in_use p chip n ≡ false
blank_unused p z chip n fine off = go (so (in_use p chip n))
  where
    go : (in_use p chip n ≡ true) ⊎ (in_use p chip n ≡ false) → in_use p chip n ≡ false
    go (inl u) = absurd (never (first_on p z (block p chip n) (fine u)) off)
    go (inr u) = u

pub begun_used : (p : Params) (chip : List ℕ) (n : ℕ) → bad p chip n ≡ false → programmed p (frame p (block p chip n) 0) ≡ true → in_use p chip n ≡ true
unfolding in_use
begun_used p chip n good on = rw (good, not_erased p (block p chip n) on)

-- on a chip whose good blocks are erased or sound, a block in use is sound
pub sound_at : (p : Params) (chip : List ℕ) → sound_rule p chip ≡ true → (n : ℕ) → n < p.N → in_use p chip n ≡ true → sound p (block p chip n) ≡ true
unfolding sound_rule
sound_at p chip h n low u = rw u at (all_at p.N (λ n. not (in_use p chip n) || sound p (block p chip n)) h n low)
