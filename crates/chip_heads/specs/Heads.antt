-- What one look at a block tells of it.
-- Assumes nothing.
use Rattle.std.specs.Prelude.{◌≡◌, false, true, List, MatchOption, Option, ℕ, ◌<◌}
use Rattle.rules.specs.declared.Params.{Params}
use Rattle.rules.specs.Pages.{block, is_full}
use Rattle.rules.specs.Start.{in_use, region_named, vblock_named}
use Rattle.chip_heads.specs.declared.Head.{Head}

-- the region and the virtual block that a block names, and whether it is full
pub record Names (p : Params) (blk : List ℕ) (h : Head) : Type 0 where
  pub region_is : h.region ≡ region_named p blk
  pub region_low : h.region < p.mu
  pub vblock_is : h.vblock.0 ≡ vblock_named p blk
  pub vblock_low : h.vblock.0 < p.gamma
  pub full_is : h.full ≡ is_full p blk

-- of block n: None where it is not in use, and these where it is
abbrev pub HeadOf : Params → List ℕ → ℕ → Option Head → Type 0
HeadOf p chip n h = MatchOption h (in_use p chip n ≡ false) (λ x. (in_use p chip n ≡ true) × Names p (block p chip n) x)
