-- What the check asks of the BT entries of one region, and of BT and BST together.
-- Assumes nothing.
use Rattle.std.specs.Prelude.{ℕ, ◌*◌, ◌&&◌, Bool, not, List, eqb}
use Rattle.lists.specs.Below.{all_below, count_below}
use Rattle.rules.specs.declared.Params.{Params}
use Rattle.rules.specs.Orderly.{bst_rule}
use Rattle.rules.specs.Tables.{none, bst_at, bt_at, bt_entry}

-- no lower virtual block of region r has the block of virtual block v
unfoldable pub differs : Params → List ℕ → ℕ → ℕ → Bool
differs p bt r v = all_below v (λ u. not (eqb (bt_at p bt r u) (bt_at p bt r v)))

-- region r has no block
unfoldable pub empty_at : Params → List ℕ → ℕ → Bool
empty_at p bt r = all_below p.gamma (λ v. eqb (bt_at p bt r v) none)

-- as many blocks are used as BT has entries that are not none
unfoldable pub used_ok : Params → List ℕ → List ℕ → Bool
used_ok p bt bst = eqb (count_below p.N (λ n. eqb (bst_at bst n) 1)) (count_below (p.mu * p.gamma) (λ i. not (eqb (bt_entry bt i) none)))

-- the rules of BST, where BT names this many blocks
unfoldable pub kinds_ok : Params → List ℕ → ℕ → Bool
kinds_ok p bst named = bst_rule p bst && eqb (count_below p.N (λ n. eqb (bst_at bst n) 1)) named
