-- A block of which the first k frames are programmed, and no others; and a frame as the check wants it.
-- Assumes nothing.
use Rattle.std.specs.Prelude.{◌≡◌, List, ℕ, ◌≤◌, ◌<◌, Bool, ◌&&◌, leb, ltb}
use Rattle.rules.specs.declared.Params.{Params}
use Rattle.rules.specs.Orderly.{good_frame}
use Rattle.rules.specs.Pages.{frame, programmed, stamp_of}
use Rattle.rules.specs.Parameters.{frames}

pub record FirstFrames (p : Params) (blk : List ℕ) (k : ℕ) : Type 0 where
  pub most : k ≤ frames p
  pub are : (f : ℕ) → f < frames p → programmed p (frame p blk f) ≡ ltb f k

-- a frame of region r in virtual block v, with a stamp up to `last`
unfoldable pub fit_frame : Params → ℕ → ℕ → ℕ → List ℕ → Bool
fit_frame p r v last fr = good_frame p r v fr && leb (stamp_of p fr) last
