-- When a block is sound, test by test; and what is asked of a block, by its first page.
-- Assumes nothing.
use mathlib.Core.Path.{◌≡◌, refl, sym, ◌∙◌}
use mathlib.Core.Logic.{◌⊎◌, inl, inr}
use mathlib.Core.Bool.{Bool, true, false, not, ◌||◌}
use mathlib.Core.List.{List}
use Prim.Native.Nat.{ℕ, ◌≤◌, ◌<◌}
use native.Mathlib.Omega.{arith}
use borrow.Author.Tests.{le-ltb, lt-ltb}
use Rattle.lists.proofs.Tests.{never, so}
use Rattle.rules.specs.declared.Params.{Params}
use Rattle.rules.specs.Numbers.{region_of}
use Rattle.rules.specs.Pages.{block, erased, frame, held, programmed, vblock_in}
use Rattle.rules.specs.Orderly.{block_rule}
use Rattle.rules.specs.Format.{bad}
use Rattle.rules.specs.Start.{in_use, sound}
use Rattle.rules.proofs.Sizes.{Sizes}
use Rattle.chip_heads.proofs.Sound.{bad_unused, cluster_low, first_on, not_erased, region_read, vblock_read}

-- ---- over the first frame fr of a block, and the virtual block v and the cluster c that it names

module _ (p : Params) (z : Sizes p) (blk fr : List ℕ) (fr-is : fr ≡ frame p blk 0) where
  pub high_vblock : (v : ℕ) → v ≡ vblock_in p fr → p.gamma ≤ v → false ≡ sound p blk
  unfolding sound
  high_vblock v e h = rw (← (vblock_read p blk fr fr-is v e), le-ltb v p.gamma h)

  pub high_cluster : (c : ℕ) → c ≡ held p fr → p.C ≤ c → false ≡ sound p blk
  high_cluster c e h = go (so (sound p blk))
    where
      c_is : c ≡ held p (frame p blk 0)
      c_is = rw (← fr-is) e

      go : (sound p blk ≡ true) ⊎ (sound p blk ≡ false) → false ≡ sound p blk
      go (inl s) = absurd (omega (arith, cluster_low p z blk s, c_is, h))
      go (inr s) = sym s

  pub sound_is : (v c r : ℕ) → v ≡ vblock_in p fr → c ≡ held p fr → r ≡ region_of p c → v < p.gamma → (ok : Bool) → ok ≡ block_rule p r v blk → ok ≡ sound p blk
  unfolding sound
  sound_is v c r e k q low ok s = rw (← (vblock_read p blk fr fr-is v e), ← (region_read p blk fr fr-is c r k q), lt-ltb v p.gamma low) s

-- ---- erased or sound, by the first page

pub begun_right : (p : Params) (blk : List ℕ) → programmed p (frame p blk 0) ≡ true → (ok : Bool) → ok ≡ sound p blk → ok ≡ erased blk || sound p blk
begun_right p blk on ok e = rw (not_erased p blk on) e

pub blank_right : (p : Params) → Sizes p → (blk : List ℕ) → programmed p (frame p blk 0) ≡ false → (ok : Bool) → ok ≡ erased blk → ok ≡ erased blk || sound p blk
blank_right p z blk off ok e = go (so (sound p blk))
  where
    either : (t : Bool) → t ≡ t || false
    either true = refl
    either false = refl

    go : (sound p blk ≡ true) ⊎ (sound p blk ≡ false) → ok ≡ erased blk || sound p blk
    go (inl s) = absurd (never (first_on p z blk s) off)
    go (inr s) = rw (s, e) (either (erased blk))

-- ---- not in use or sound

pub bad_passes : (p : Params) (chip : List ℕ) (n : ℕ) → bad p chip n ≡ true → true ≡ not (in_use p chip n) || sound p (block p chip n)
bad_passes p chip n h = rw (bad_unused p chip n h)

pub good_passes : (p : Params) (chip : List ℕ) (n : ℕ) → bad p chip n ≡ false → (ok : Bool) → ok ≡ erased (block p chip n) || sound p (block p chip n)
    → ok ≡ not (in_use p chip n) || sound p (block p chip n)
unfolding in_use
good_passes p chip n h ok e = rw h (e ∙ twice (erased (block p chip n)))
  where
    twice : (t : Bool) → t || sound p (block p chip n) ≡ not (not t) || sound p (block p chip n)
    twice true = refl
    twice false = refl
