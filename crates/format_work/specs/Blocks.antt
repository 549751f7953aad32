-- What the format asks of the chip and the tables, and what it makes of one block and of all.
-- Assumes nothing.
use Rattle.std.specs.Prelude.{◌≡◌, true, cond, List, [], ◌∷◌, ℕ, ◌*◌, ◌≤◌, ◌<◌, length, set}
use Rattle.lists.specs.Below.{join_below}
use Rattle.rules.specs.declared.Params.{Params}
use Rattle.rules.specs.Parameters.{allowed, block_bytes}
use Rattle.rules.specs.Traces.{erase, erase_ops, erased_state, erases_in, on_wear, replay_chip, replay_wear}
use Rattle.rules.specs.Format.{bad, format_ops}

pub record BlocksAsked (p : Params) (chip bst wear : List ℕ) : Type 0 where
  pub fine : allowed p ≡ true
  pub chip_length : length chip ≡ p.N * block_bytes p
  pub bst_length : length bst ≡ p.N
  pub wear_length : length wear ≡ p.N

pub record BlockAsked (p : Params) (chip bst wear : List ℕ) (n : ℕ) : Type 0 where
  pub all : BlocksAsked p chip bst wear
  pub low : n < p.N

-- a bad block is reserved and not touched, another is erased, with one erase more, and free or, where it is worn out, marked and reserved
pub record BlockDone (p : Params) (chip bst wear : List ℕ) (n : ℕ) (chip' bst' wear' : List ℕ) (k : ℕ) : Type 0 where
  pub chip_is : chip' ≡ cond (bad p chip n) chip (replay_chip p chip (erase_ops p wear n))
  pub bst_is : bst' ≡ set bst n (cond (bad p chip n) 2 (erased_state p wear n))
  pub wear_is : wear' ≡ cond (bad p chip n) wear (on_wear wear (erase n))
  pub count : k ≡ cond (bad p chip n) 0 1

-- the format's operations are made, and BST tells the bad and the worn blocks from the others
pub record BlocksDone (p : Params) (chip wear chip' bst' wear' : List ℕ) (k : ℕ) : Type 0 where
  pub chip_is : chip' ≡ replay_chip p chip (format_ops p chip wear)
  pub bst_is : bst' ≡ join_below p.N (λ n. cond (bad p chip n) 2 (erased_state p wear n) ∷ [])
  pub wear_is : wear' ≡ replay_wear wear (format_ops p chip wear)
  pub count : k ≡ erases_in (format_ops p chip wear)
  pub few : k ≤ p.N
