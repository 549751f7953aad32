-- BT with the full blocks so far: at the start, and what one block adds. At most one full block names an entry, so that it is the first.
-- Assumes nothing.
use mathlib.Core.Path.{◌≡◌, refl, sym, ap, ◌∙◌}
use mathlib.Core.Logic.{◌⊎◌, inl, inr}
use mathlib.Core.Bool.{true, false, ◌&&◌, and-false, cond}
use mathlib.Core.List.{List}
use Prim.Native.Nat.{ℕ, ◌+◌, ◌*◌, ◌<◌}
use lib.ListN.{length, replicate, set}
use Rattle.lists.specs.Below.{first_below}
use Rattle.lists.proofs.Lists.{list_const}
use Rattle.lists.proofs.Tests.{so}
use Rattle.rules.specs.declared.Params.{Params}
use Rattle.rules.specs.Tables.{none}
use Rattle.rules.specs.Pages.{block, is_full}
use Rattle.rules.specs.Start.{in_use, names, names_full, region_named, vblock_named}
use Rattle.rules.proofs.Isolation.{index_low}
use Rattle.rules.proofs.Sizes.{Sizes, sizes}
use Rattle.starts.proofs.KeptBlocks.{few, full_in, full_out, named_region, named_vblock, own_names, region_low_lem, sounds, vblock_low_lem}
use Rattle.start_blocks.specs.Named.{BlockAsked, StartAsked, fulls_to, index_named}
use Rattle.start_blocks.proofs.Entries.{entries_to, entries_length, entries_put, entries_skip, entry_to, first_alone}

module _ (p : Params) (chip bt : List ℕ) (a : StartAsked p chip bt) where
  z : Sizes p
  z = sizes p a.fine

  pub fulls_none : (l : List ℕ) → l ≡ replicate (length bt) none → l ≡ fulls_to p chip 0
  unfolding fulls_to first_below
  fulls_none l e = e ∙ rw a.bt_length (list_const none (p.mu * p.gamma))

  -- an entry is the first full block that names it
  abbrev entries : ℕ → List ℕ
  entries = entries_to (p.mu * p.gamma) p.gamma z.vblocks (λ i x. x) (names_full p chip)

  fulls_are : (k : ℕ) → fulls_to p chip k ≡ entries k
  unfolding fulls_to entries_to entry_to
  fulls_are k = refl

  pub fulls_length : (k : ℕ) → length (fulls_to p chip k) ≡ p.mu * p.gamma
  fulls_length k = ap length (fulls_are k) ∙ entries_length (p.mu * p.gamma) p.gamma z.vblocks (λ i x. x) (names_full p chip) k

  -- what the next step asks
  pub full_asked : (k : ℕ) (bt₁ : List ℕ) → k < p.N → bt₁ ≡ fulls_to p chip k → BlockAsked p chip bt₁ k
  full_asked k bt₁ low so_far =
      record { fine = a.fine; chip_length = a.chip_length; bt_length = ap length so_far ∙ fulls_length k; low = low; right = sounds p z chip a.starts k low }

  module _ (k : ℕ) (low : k < p.N) where
    abbrev blk : List ℕ
    blk = block p chip k

    only : (r v : ℕ) → names_full p chip r v k ≡ true → (r ≡ region_named p blk) × (v ≡ vblock_named p blk)
    only r v t = let w = (full_in p z chip r v k t).0 in (sym (named_region p z chip r v k w), sym (named_vblock p z chip r v k w))

    pub fulls_turn : (bt₁ bt₂ : List ℕ) → bt₁ ≡ fulls_to p chip k → bt₂ ≡ cond (in_use p chip k && is_full p blk) (set bt₁ (index_named p blk) k) bt₁ → bt₂ ≡ fulls_to p chip (k + 1)
    fulls_turn bt₁ bt₂ e d = d ∙ rw e (go (so (in_use p chip k)) (so (is_full p blk)))
      where
        skip : ((r v : ℕ) → names_full p chip r v k ≡ false) → fulls_to p chip k ≡ fulls_to p chip (k + 1)
        skip h = fulls_are k ∙ entries_skip (p.mu * p.gamma) p.gamma z.vblocks (λ i x. x) (names_full p chip) k h ∙ sym (fulls_are (k + 1))

        go : (in_use p chip k ≡ true) ⊎ (in_use p chip k ≡ false) → (is_full p blk ≡ true) ⊎ (is_full p blk ≡ false)
            → cond (in_use p chip k && is_full p blk) (set (fulls_to p chip k) (index_named p blk) k) (fulls_to p chip k) ≡ fulls_to p chip (k + 1)
        go (inr u) f = rw u (skip (λ r v. unfold names_full names in rw u))
        go (inl u) (inr f) = rw (u, f) (skip (λ r v. unfold names_full in rw (f, and-false)))
        go (inl u) (inl f) = rw (u, f) put
          where
            t : names_full p chip (region_named p blk) (vblock_named p blk) k ≡ true
            t = full_out p z chip (region_named p blk) (vblock_named p blk) k (own_names p z chip k u) f

            lr : region_named p blk < p.mu
            lr = region_low_lem p z blk

            lv : vblock_named p blk < p.gamma
            lv = vblock_low_lem p blk (sounds p z chip a.starts k low u)

            put : set (fulls_to p chip k) (index_named p blk) k ≡ fulls_to p chip (k + 1)
            put =
                rw (fulls_are k, fulls_are (k + 1)) (unfold index_named in entries_put (p.mu * p.gamma) p.gamma z.vblocks (λ i x. x) (names_full p chip) k (region_named p blk) (vblock_named p blk) lv
                (index_low p (region_named p blk) (vblock_named p blk) lr lv) only t
                (first_alone (names_full p chip (region_named p blk) (vblock_named p blk)) p.N k (few p z chip a.starts (region_named p blk) (vblock_named p blk) lr lv).0 z.blocks low t) refl)
