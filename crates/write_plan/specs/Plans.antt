-- The plan as the code has it, and what the search for it asks.
-- Assumes nothing.
use Rattle.std.specs.Prelude.{◌≡◌, ◌⊎◌, true, cond, List, ℕ, ◌*◌, ◌≤◌, ◌<◌, eqb, length}
use Rattle.rules.specs.declared.Params.{Params}
use Rattle.rules.specs.Parameters.{allowed, frames, block_bytes}
use Rattle.rules.specs.Numbers.{place_of, vblock_of}
use Rattle.rules.specs.Tables.{none, bt_at, fst_at}
use Rattle.rules.specs.Pages.{block, filled}
use Rattle.rules.specs.Write.{Plan, continues, opens, reclaims}
use Rattle.chip_blocks.specs.First.{FirstFrames}
use Rattle.write_plan.specs.declared.Planned.{Planned}
use Rattle.write_plan.specs.declared.Planned.TheVariants.{Continues, Opens, Reclaims}

-- the rules' plan
abbrev pub plan_is : Planned → Plan
plan_is (Continues v f) = continues v.0 f
plan_is (Opens v) = opens v.0
plan_is (Reclaims v) = reclaims v.0

-- the first frames of a block are programmed, and no others, and segment sg has the last of them
pub record OpenFrames (p : Params) (blk : List ℕ) (sg : ℕ) : Type 0 where
  pub front : FirstFrames p blk (filled p blk)
  pub from : place_of p sg * p.beta ≤ filled p blk

-- the lent chip and tables are whole, BT names blocks of the chip, and FST, where it is not none, a block of the region, with the segment of its last programmed frame
pub record PlanAsked (p : Params) (chip bt fst : List ℕ) (r : ℕ) : Type 0 where
  pub fine : allowed p ≡ true
  pub chip_length : length chip ≡ p.N * block_bytes p
  pub bt_length : length bt ≡ p.mu * p.gamma
  pub fst_length : length fst ≡ p.mu
  pub low : r < p.mu
  pub names : (v : ℕ) → v < p.gamma → (bt_at p bt r v ≡ none) ⊎ (bt_at p bt r v < p.N)
  pub opened : (fst_at fst r ≡ none → ⊥) → (vblock_of p (fst_at fst r) < p.gamma) × (bt_at p bt r (vblock_of p (fst_at fst r)) ≡ none → ⊥)
  pub first : (fst_at fst r ≡ none → ⊥) → OpenFrames p (block p chip (bt_at p bt r (vblock_of p (fst_at fst r)))) (fst_at fst r)

-- how many frames of the open block are programmed; F where there is no open block
unfoldable pub next_in : Params → List ℕ → List ℕ → List ℕ → ℕ → ℕ
next_in p chip bt fst r = cond (eqb (fst_at fst r) none) (frames p) (filled p (block p chip (bt_at p bt r (vblock_of p (fst_at fst r)))))
