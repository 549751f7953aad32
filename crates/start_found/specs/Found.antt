-- The chip and BT as a start has found them, which the later passes read: every block that BT names is right for its region and its virtual block.
-- Assumes nothing.
use Rattle.std.specs.Prelude.{◌≡◌, true, List, ℕ, ◌*◌, ◌/◌, ◌<◌, length}
use Rattle.rules.specs.declared.Params.{Params}
use Rattle.rules.specs.Parameters.{allowed, chip_bytes, frames}
use Rattle.rules.specs.Tables.{bt_at, none}
use Rattle.rules.specs.Pages.{block}
use Rattle.rules.specs.Regions.{region_frames}
use Rattle.rules.specs.Orderly.{block_rule}

pub record Found (p : Params) (chip bt : List ℕ) : Type 0 where
  pub fine : allowed p ≡ true
  pub chip_length : length chip ≡ chip_bytes p
  pub bt_length : length bt ≡ p.mu * p.gamma
  pub named : (r v : ℕ) → r < p.mu → v < p.gamma → (bt_at p bt r v ≡ none → ⊥)
      → (bt_at p bt r v < p.N) × (block_rule p r v (block p chip (bt_at p bt r v)) ≡ true)

-- frame i of region r, counted through its virtual blocks, is in a virtual block with a block
pub record HasFrame (p : Params) (bt : List ℕ) (r i : ℕ) : Type 0 where
  pub region : r < p.mu
  pub low : i < region_frames p
  pub has : bt_at p bt r (i / frames p) ≡ none → ⊥
