-- What becomes of one block, by what its head says.
-- Assumes nothing.
use mathlib.Core.Path.{◌≡◌, sym, ◌∙◌}
use mathlib.Core.Bool.{Bool, true, false, ◌&&◌, cond}
use mathlib.Core.List.{List}
use Prim.Native.Nat.{ℕ, ◌+◌, ◌*◌, ◌<◌}
use native.Mathlib.Omega.{arith}
use lib.Dec.{eqb}
use lib.ListN.{set}
use borrow.Author.Tests.{eq-eqb, ne_eqb}
use Rattle.rules.specs.declared.Params.{Params}
use Rattle.rules.specs.Tables.{bt_at, bt_entry, none}
use Rattle.rules.specs.Pages.{block, is_full}
use Rattle.rules.specs.Traces.{erase, erase_ops, on_wear, replay_chip}
use Rattle.rules.specs.Start.{in_use}
use Rattle.rules.proofs.Sizes.{sizes}
use Rattle.chip_heads.specs.declared.Head.{Head}
use Rattle.chip_heads.specs.Heads.{Names}
use Rattle.start_blocks.specs.Named.{BlockAsked, OpenDone, index_named, only_one, too_many}

module _ (p : Params) (chip bt : List ℕ) (n : ℕ) (a : BlockAsked p chip bt n) where
  pub number_low : n < 65536
  number_low = omega (arith, a.low, (sizes p a.fine).blocks)

  -- ---- a block that is not in use

  pub full_unused : in_use p chip n ≡ false → bt ≡ cond (in_use p chip n && is_full p (block p chip n)) (set bt (index_named p (block p chip n)) n) bt
  full_unused u = rw u

  pub open_unused : (wear : List ℕ) → in_use p chip n ≡ false → OpenDone p chip bt wear n chip bt wear 0
  unfolding too_many only_one
  open_unused wear u = record { chip_is = rw u; bt_is = rw u; wear_is = rw u; count = rw u }

  pub many_unused : in_use p chip n ≡ false → too_many p chip bt n ≡ false
  unfolding too_many
  many_unused u = rw u

-- one that is in use, by what its head says
module _ (p : Params) (chip bt : List ℕ) (n : ℕ) (h : Head) (is : (in_use p chip n ≡ true) × Names p (block p chip n) h) where
  used : in_use p chip n ≡ true
  used = is.0

  pub index_is : h.region * p.gamma + h.vblock.0 ≡ index_named p (block p chip n)
  unfolding index_named
  index_is = rw (is.1.region_is, is.1.vblock_is)

  full-is : (b : Bool) → h.full ≡ b → is_full p (block p chip n) ≡ b
  full-is b f = sym is.1.full_is ∙ f

  -- ---- a full block

  pub full_put : h.full ≡ true → (bt' : List ℕ) → bt' ≡ set bt (h.region * p.gamma + h.vblock.0) n
      → bt' ≡ cond (in_use p chip n && is_full p (block p chip n)) (set bt (index_named p (block p chip n)) n) bt
  full_put f bt' e = e ∙ rw (index_is, used, full-is true f)

  pub full_not : h.full ≡ false → bt ≡ cond (in_use p chip n && is_full p (block p chip n)) (set bt (index_named p (block p chip n)) n) bt
  full_not f = rw (used, full-is false f)

  -- ---- a block that is not full, and the entry that it names

  entry : (b : Bool) → eqb (bt_at p bt h.region h.vblock.0) none ≡ b → eqb (bt_entry bt (index_named p (block p chip n))) none ≡ b
  unfolding bt_at
  entry b e = rw (← index_is) e

  module _ (wear : List ℕ) where
    pub open_full : h.full ≡ true → OpenDone p chip bt wear n chip bt wear 0
    unfolding too_many only_one
    open_full f = let q = full-is true f in record { chip_is = rw (used, q); bt_is = rw (used, q); wear_is = rw (used, q); count = rw (used, q) }

    module _ (f : h.full ≡ false) where
      not_full : is_full p (block p chip n) ≡ false
      not_full = full-is false f

      pub open_named : bt_at p bt h.region h.vblock.0 ≡ none → (bt' : List ℕ) → bt' ≡ set bt (h.region * p.gamma + h.vblock.0) n → OpenDone p chip bt wear n chip bt' wear 0
      unfolding too_many only_one
      open_named e bt' b =
          let q = entry true (eq-eqb _ none e) in
          record { chip_is = rw (used, not_full, q); bt_is = rw (used, not_full, q) (b ∙ rw index_is); wear_is = rw (used, not_full, q); count = rw (used, not_full, q) }

      pub open_erased : (bt_at p bt h.region h.vblock.0 ≡ none → ⊥) → (chip' wear' : List ℕ) → chip' ≡ replay_chip p chip (erase_ops p wear n)
          → wear' ≡ on_wear wear (erase n) → OpenDone p chip bt wear n chip' bt wear' 1
      unfolding too_many only_one
      open_erased ne chip' wear' x y =
          let q = entry false (ne_eqb _ none ne) in
          record { chip_is = rw (used, not_full, q) x; bt_is = rw (used, not_full, q); wear_is = rw (used, not_full, q) y; count = rw (used, not_full, q) }

  -- ---- whether it is one too many

  pub many_full : h.full ≡ true → too_many p chip bt n ≡ false
  unfolding too_many
  many_full f = rw (used, full-is true f)

  pub many_alone : h.full ≡ false → bt_at p bt h.region h.vblock.0 ≡ none → too_many p chip bt n ≡ false
  unfolding too_many
  many_alone f e = rw (used, full-is false f, entry true (eq-eqb _ none e))

  pub many_over : h.full ≡ false → (bt_at p bt h.region h.vblock.0 ≡ none → ⊥) → too_many p chip bt n ≡ true
  unfolding too_many
  many_over f ne = rw (used, full-is false f, entry false (ne_eqb _ none ne))
