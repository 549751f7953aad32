-- BST as the list of what is to be erased, and what a turn makes of one block.
-- Assumes nothing.
use Rattle.std.specs.Prelude.{◌≡◌, Bool, cond, List, [], ℕ, eqb, length, take}
use Rattle.rules.specs.declared.Params.{Params}
use Rattle.rules.specs.Tables.{bst_at}
use Rattle.rules.specs.Traces.{Op, erase_ops, replay_chip, replay_wear}

-- a block that BST has as free is to be erased
unfoldable pub listed : List ℕ → ℕ → Bool
listed bst n = eqb (bst_at bst n) 0

-- its operations: the erase, and the mark where that wears it out
unfoldable pub block_ops : Params → List ℕ → List ℕ → ℕ → List Op
block_ops p bst wear n = cond (listed bst n) (erase_ops p wear n) []

-- as many of them are made as are left
pub record EraseDone (p : Params) (chip bst wear : List ℕ) (n left : ℕ) (chip' wear' : List ℕ) (x : ℕ) : Type 0 where
  pub chip_is : chip' ≡ replay_chip p chip (take left (block_ops p bst wear n))
  pub wear_is : wear' ≡ replay_wear wear (take left (block_ops p bst wear n))
  pub count : x ≡ length (take left (block_ops p bst wear n))
