-- Which blocks are left over, by BT with the full blocks in it: an entry is the full block that names it, or none.
-- Assumes nothing.
use mathlib.Core.Path.{◌≡◌, ◌∙◌}
use mathlib.Core.Logic.{◌⊎◌, inl, inr}
use mathlib.Core.Bool.{true, false, cond}
use mathlib.Core.List.{List}
use Prim.Native.Nat.{ℕ, ◌+◌, ◌*◌, ◌/◌, ◌%◌, ◌<◌}
use native.Mathlib.Nat.{add-zero, div-eq_of_lt, mod-eq_of_lt, mul-add-div_right, mul-add-mod_self_right}
use Rattle.lists.specs.Below.{first_below}
use Rattle.lists.proofs.Lists.{list_at}
use Rattle.lists.proofs.Tests.{so}
use Rattle.rules.specs.declared.Params.{Params}
use Rattle.rules.specs.Tables.{bt_entry, none}
use Rattle.rules.specs.Pages.{block}
use Rattle.rules.specs.Start.{full_block, in_use, left_over, names_full, region_named, vblock_named}
use Rattle.rules.proofs.Isolation.{index_low}
use Rattle.rules.proofs.Sizes.{Sizes, sizes}
use Rattle.starts.proofs.KeptBlocks.{region_low_lem, sounds, vblock_low_lem}
use Rattle.start_blocks.specs.Named.{BlockAsked, StartAsked, fulls_to, index_named, too_many}

module _ (p : Params) (chip bt : List ℕ) (a : StartAsked p chip bt) where
  z : Sizes p
  z = sizes p a.fine

  full_entry : (r v : ℕ) → r < p.mu → v < p.gamma → bt_entry (fulls_to p chip p.N) (r * p.gamma + v) ≡ full_block p chip r v
  unfolding bt_entry fulls_to full_block
  full_entry r v h k =
      list_at (p.mu * p.gamma) (λ i. first_below none p.N (names_full p chip (i / p.gamma) (i % p.gamma))) (r * p.gamma + v) none (index_low p r v h k)
      ∙ rw (mul-add-div_right z.vblocks, div-eq_of_lt k, mul-add-mod_self_right, mod-eq_of_lt k, add-zero r)

  module _ (is : bt ≡ fulls_to p chip p.N) (n : ℕ) (low : n < p.N) where
    pub left_asked : BlockAsked p chip bt n
    left_asked = record { fine = a.fine; chip_length = a.chip_length; bt_length = a.bt_length; low = low; right = sounds p z chip a.starts n low }

    abbrev blk : List ℕ
    blk = block p chip n

    entry : in_use p chip n ≡ true → bt_entry bt (index_named p blk) ≡ full_block p chip (region_named p blk) (vblock_named p blk)
    unfolding index_named
    entry u = rw is (full_entry (region_named p blk) (vblock_named p blk) (region_low_lem p z blk) (vblock_low_lem p blk (sounds p z chip a.starts n low u)))

    many_left : too_many p chip bt n ≡ left_over p chip n
    unfolding too_many left_over
    many_left = go (so (in_use p chip n))
      where
        go : (in_use p chip n ≡ true) ⊎ (in_use p chip n ≡ false) → too_many p chip bt n ≡ left_over p chip n
        go (inr u) = rw u
        go (inl u) = rw (entry u)

    pub kind_left : (s : ℕ) → s ≡ cond (too_many p chip bt n) 0 2 → s ≡ cond (left_over p chip n) 0 2
    kind_left s e = e ∙ rw many_left
