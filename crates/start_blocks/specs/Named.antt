-- What the passes over the blocks ask, and what they have made of BT, the chip and the wear so far.
-- Assumes nothing.
use Rattle.std.specs.Prelude.{◌≡◌, Bool, true, not, ◌&&◌, cond, List, ℕ, ◌+◌, ◌*◌, ◌/◌, ◌%◌, ◌≤◌, ◌<◌, eqb, length, set}
use Rattle.lists.specs.Below.{all_below, first_below, list_below}
use Rattle.rules.specs.declared.Params.{Params}
use Rattle.rules.specs.Parameters.{allowed, chip_bytes}
use Rattle.rules.specs.Tables.{bt_entry, none}
use Rattle.rules.specs.Pages.{block, is_full}
use Rattle.rules.specs.Orderly.{named}
use Rattle.rules.specs.Traces.{erase, erase_ops, erased_state, erases_in, on_wear, replay_chip, replay_wear}
use Rattle.rules.specs.Format.{bad}
use Rattle.rules.specs.Start.{found_bt, full_block, in_use, left_over, names_full, names_open, region_named, sound, start_ops, startable, vblock_named}

-- the entry of BT that a block names
unfoldable pub index_named : Params → List ℕ → ℕ
index_named p blk = region_named p blk * p.gamma + vblock_named p blk

-- BT once the full blocks below k are in it
unfoldable pub fulls_to : Params → List ℕ → ℕ → List ℕ
fulls_to p chip k = list_below (p.mu * p.gamma) (λ i. first_below none k (names_full p chip (i / p.gamma) (i % p.gamma)))

-- BT once all full blocks are in it, and those of the others below k that name an entry without one
unfoldable pub opens_to : Params → List ℕ → ℕ → List ℕ
opens_to p chip k =
    list_below (p.mu * p.gamma)
    (λ i.
    let full = full_block p chip (i / p.gamma) (i % p.gamma) in
    cond (eqb full none) (first_below none k (names_open p chip (i / p.gamma) (i % p.gamma))) full)

-- block n of the chip, which is sound if it is in use, and BT
pub record BlockAsked (p : Params) (chip bt : List ℕ) (n : ℕ) : Type 0 where
  pub fine : allowed p ≡ true
  pub chip_length : length chip ≡ chip_bytes p
  pub bt_length : length bt ≡ p.mu * p.gamma
  pub low : n < p.N
  pub right : in_use p chip n ≡ true → sound p (block p chip n) ≡ true

-- a block that is in use and not full is one too many, or is the one of its entry
unfoldable pub too_many : Params → List ℕ → List ℕ → ℕ → Bool
too_many p chip bt n = in_use p chip n && (not (is_full p (block p chip n)) && not (eqb (bt_entry bt (index_named p (block p chip n))) none))

unfoldable pub only_one : Params → List ℕ → List ℕ → ℕ → Bool
only_one p chip bt n = in_use p chip n && (not (is_full p (block p chip n)) && eqb (bt_entry bt (index_named p (block p chip n))) none)

-- what becomes of it: the one goes into BT, the other is erased, and marked where that wears it out
pub record OpenDone (p : Params) (chip bt wear : List ℕ) (n : ℕ) (chip' bt' wear' : List ℕ) (k : ℕ) : Type 0 where
  pub chip_is : chip' ≡ cond (too_many p chip bt n) (replay_chip p chip (erase_ops p wear n)) chip
  pub bt_is : bt' ≡ cond (only_one p chip bt n) (set bt (index_named p (block p chip n)) n) bt
  pub wear_is : wear' ≡ cond (too_many p chip bt n) (on_wear wear (erase n)) wear
  pub count : k ≡ cond (too_many p chip bt n) 1 0

-- a chip that can be started, and BT
pub record StartAsked (p : Params) (chip bt : List ℕ) : Type 0 where
  pub fine : allowed p ≡ true
  pub chip_length : length chip ≡ chip_bytes p
  pub bt_length : length bt ≡ p.mu * p.gamma
  pub starts : startable p chip ≡ true

-- what is left over is erased, and BT names what is kept
pub record Kept (p : Params) (chip wear chip' bt' wear' : List ℕ) (k : ℕ) : Type 0 where
  pub chip_is : chip' ≡ replay_chip p chip (start_ops p chip wear)
  pub bt_is : bt' ≡ found_bt p chip
  pub wear_is : wear' ≡ replay_wear wear (start_ops p chip wear)
  pub count : k ≡ erases_in (start_ops p chip wear)
  pub few : k ≤ p.N

-- one of the first i entries of BT names block n
unfoldable pub named_by : List ℕ → ℕ → ℕ → Bool
named_by bt i n = not (all_below i (λ j. not (eqb (bt_entry bt j) n)))

-- and BST tells which blocks are bad, named, worn out and free
abbrev pub kinds : Params → List ℕ → List ℕ → List ℕ → List ℕ
kinds p chip wear bt = list_below p.N (λ n. cond (bad p chip n) 2 (cond (named p bt n) 1 (cond (left_over p chip n) (erased_state p wear n) 0)))
