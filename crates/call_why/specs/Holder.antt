-- What is true of the place that an answer names: its frame holds the cluster, and is valid.
-- Assumes nothing.
use Rattle.std.specs.Prelude.{◌≡◌, true, ◌<◌, ℕ, get_or}
use Rattle.rules.specs.declared.Params.{Params}
use Rattle.rules.specs.Numbers.{region_of}
use Rattle.rules.specs.Pages.{block, frame, held}
use Rattle.rules.specs.Parameters.{frames}
use Rattle.rules.specs.Regions.{valid, view}
use Rattle.rules.specs.Tables.{Board}
use Rattle.call_why.specs.Why.{holder_of}

-- number i of the holder
unfoldable pub holder_at : Params → Board → ℕ → ℕ → ℕ
holder_at p b c i = get_or (holder_of p b c) i 0

-- the physical block is one of the chip, its frame holds the cluster, and as frame of the virtual block it is valid in the region
pub record HolderTrue (p : Params) (b : Board) (c : ℕ) : Type 0 where
  pub block_low : holder_at p b c 3 < p.N
  pub frame_low : holder_at p b c 4 < frames p
  pub holds : held p (frame p (block p b.chip (holder_at p b c 3)) (holder_at p b c 4)) ≡ c
  pub is_valid : valid p (view p b (region_of p c)) (holder_at p b c 2) (holder_at p b c 4) ≡ true
