-- What a region's two questions say of its part of the rule, over the BT that a start finds.
-- Assumes nothing.
use mathlib.Core.Path.{◌≡◌, sym, ◌∙◌}
use mathlib.Core.Bool.{Bool, true, false, ◌&&◌, and_assoc, and-true}
use mathlib.Core.List.{List}
use Prim.Native.Nat.{ℕ, ◌+◌, ◌*◌, ◌/◌, ◌%◌, ◌<◌}
use native.Mathlib.Nat.{add-zero, div-eq_of_lt, mod-eq_of_lt, mul-add-div_right, mul-add-mod_self_right}
use lib.ListN.{get_or}
use Rattle.lists.specs.Below.{all_below, all_true}
use Rattle.lists.proofs.Lists.{list_at}
use Rattle.rules.specs.declared.Params.{Params}
use Rattle.rules.specs.Tables.{bt_at, bt_entry, none}
use Rattle.rules.specs.Regions.{View}
use Rattle.rules.specs.Start.{found_bt, found_view, kept_block, open_once, pair_rule, region_starts, sound_rule, stamps_apart, startable}
use Rattle.rules.proofs.Isolation.{index_low}
use Rattle.rules.proofs.Sizes.{Sizes}
use Rattle.check_apart.specs.Apart as apart
use Rattle.check_pairs.specs.Rows.{Asked, Kept}

-- BT as a start finds it names the kept blocks
found_at : (p : Params) → Sizes p → (chip : List ℕ) (r v : ℕ) → r < p.mu → v < p.gamma → bt_at p (found_bt p chip) r v ≡ kept_block p chip r v
unfolding bt_at bt_entry found_bt
found_at p z chip r v h k =
    list_at (p.mu * p.gamma) (λ i. kept_block p chip (i / p.gamma) (i % p.gamma)) (r * p.gamma + v) none (index_low p r v h k)
    ∙ rw (mul-add-div_right z.vblocks, div-eq_of_lt k, mul-add-mod_self_right, mod-eq_of_lt k, add-zero r)

module _ (p : Params) (z : Sizes p) (chip : List ℕ) (r : ℕ) (region : r < p.mu) where
  abbrev found : View
  found = found_view p chip (found_bt p chip) r

  pairs_said : (ok : Bool) (row : List ℕ) → Kept p chip r ok row → ok ≡ all_below p.gamma (pair_rule p chip r) && open_once p found
  pairs_said ok row k = k.said (found_bt p chip) (λ v h. found_at p z chip r v region h)

  -- the blocks that name the virtual blocks, and then the stamps
  pub region_not : (ok : Bool) (row : List ℕ) → Kept p chip r ok row → ok ≡ false → false ≡ region_starts p chip (found_bt p chip) r
  unfolding region_starts all_true
  region_not ok row k e =
      rw (← (and_assoc (all_below p.gamma (pair_rule p chip r)) (open_once p found) (stamps_apart p found && true)), ← (pairs_said ok row k), e)

  pub region_is_lem : (ok : Bool) (row : List ℕ) → Kept p chip r ok row → ok ≡ true → (b : Bool) → b ≡ stamps_apart p found → b ≡ region_starts p chip (found_bt p chip) r
  unfolding region_starts all_true
  region_is_lem ok row k e b q =
      rw (
        ← (and_assoc (all_below p.gamma (pair_rule p chip r)) (open_once p found) (stamps_apart p found && true)),
        ← (pairs_said ok row k),
        e,
        and-true (stamps_apart p found),
      ) q

  -- what the second question asks
  pub row_asked : (ok : Bool) (row : List ℕ) → Asked p chip → Kept p chip r ok row → ok ≡ true → apart.Asked p chip row
  row_asked ok row a k e = record { fine = a.fine; size = a.size; row = k.size e; blocks = k.blocks e }

  -- BT has the row's blocks
  pub row_found : (ok : Bool) (row : List ℕ) → Kept p chip r ok row → ok ≡ true → (v : ℕ) → v < p.gamma → bt_at p (found_bt p chip) r v ≡ get_or row v none
  row_found ok row k e v h = found_at p z chip r v region h ∙ sym (k.kept e v h)

-- ---- the whole rule

pub start_not : (p : Params) (chip : List ℕ) (ok : Bool) → ok ≡ sound_rule p chip → ok ≡ false → false ≡ startable p chip
unfolding startable
start_not p chip ok e f = rw (← e, f)

pub start_is : (p : Params) (chip : List ℕ) (ok : Bool) → ok ≡ sound_rule p chip → ok ≡ true → (b : Bool)
    → b ≡ all_below p.mu (region_starts p chip (found_bt p chip)) → b ≡ startable p chip
unfolding startable
start_is p chip ok e t b q = rw (← e, t) q
