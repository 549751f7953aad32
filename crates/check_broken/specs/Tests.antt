-- The rule of the used blocks, over the lent chip and BT.
-- Assumes nothing.
use Rattle.std.specs.Prelude.{ℕ, Bool, ◌||◌, List, eqb}
use Rattle.lists.specs.Below.{all_below}
use Rattle.rules.specs.declared.Params.{Params}
use Rattle.rules.specs.Orderly.{block_rule}
use Rattle.rules.specs.Pages.{block}
use Rattle.rules.specs.Tables.{bt_at, none}

-- virtual block v of region r has no block, or has a used block of that region
unfoldable pub block_ok : Params → List ℕ → List ℕ → ℕ → ℕ → Bool
block_ok p chip bt r v = eqb (bt_at p bt r v) none || block_rule p r v (block p chip (bt_at p bt r v))

-- the same of every virtual block of region r
unfoldable pub region_blocks_ok : Params → List ℕ → List ℕ → ℕ → Bool
region_blocks_ok p chip bt r = all_below p.gamma (block_ok p chip bt r)
