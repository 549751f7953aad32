-- The newest frame of each cluster, and the largest stamp of a region, among the frames that are gone over so far.
-- Assumes nothing.
use Rattle.std.specs.Prelude.{◌≡◌, cond, List, ℕ, ◌/◌, ◌%◌, ◌<◌, eqb, ltb}
use Rattle.lists.specs.Below.{list_below, most_below}
use Rattle.rules.specs.declared.Params.{Params}
use Rattle.rules.specs.Parameters.{frames}
use Rattle.rules.specs.Numbers.{region_of, segment_of}
use Rattle.rules.specs.Tables.{none, not_found}
use Rattle.rules.specs.Pages.{holds, programmed}
use Rattle.rules.specs.Regions.{View, frame_in, region_frames, stamp_in}
use Rattle.rules.specs.Start.{found_view}
use Rattle.start_found.specs.Found.{Found}

-- of the first n frames of a region, the whole one of cluster c with the largest stamp
unfoldable pub newest_in : Params → View → ℕ → ℕ → ℕ
newest_in p vw n c = most_below (stamp_in p vw) not_found n (λ i. holds p (frame_in p vw i) c)

-- how many frames of region x are gone over, once those of all regions below r are, and i of region r
unfoldable pub gone_over : Params → ℕ → ℕ → ℕ → ℕ
gone_over p r i x = cond (ltb x r) (region_frames p) (cond (eqb x r) i 0)

-- CT then: not segments yet, but the number of each cluster's newest frame in its region
unfoldable pub newest_frames : Params → List ℕ → List ℕ → ℕ → ℕ → List ℕ
newest_frames p chip bt r i = list_below p.C (λ c. newest_in p (found_view p chip bt (region_of p c)) (gone_over p r i (region_of p c)) c)

-- the segment of such a number
unfoldable pub segment_at : Params → ℕ → ℕ
segment_at p i = cond (eqb i not_found) none (segment_of p (i / frames p) (i % frames p))

-- the largest stamp on the first n frames of a region, 0 if none of them is programmed
unfoldable pub stamp_to : Params → View → ℕ → ℕ
stamp_to p vw n =
    let i = most_below (stamp_in p vw) not_found n (λ i. programmed p (frame_in p vw i)) in
    cond (eqb i not_found) 0 (stamp_in p vw i)

-- what the step over one frame asks
pub record FrameAsked (p : Params) (chip bt ct : List ℕ) (r i : ℕ) : Type 0 where
  pub found : Found p chip bt
  pub region : r < p.mu
  pub low : i < region_frames p
  pub so : ct ≡ newest_frames p chip bt r i
