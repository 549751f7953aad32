-- The sectors of a cluster, read from the frame where it stands.
-- Assumes nothing.
use Rattle.std.specs.Prelude.{◌≡◌, Bool, true, cond, List, ℕ, ◌+◌, ◌*◌, ◌≤◌, ◌<◌, length, take, replicate}
use Rattle.lists.specs.Parts.{part}
use Rattle.rules.specs.declared.Params.{Params}
use Rattle.rules.specs.Parameters.{allowed, page_bytes, frame_bytes}
use Rattle.rules.specs.Numbers.{cluster_of, sector_of}
use Rattle.read_work.specs.Lookup.{Lookup}

-- sector j of a cluster that is kept in this frame of the chip: the data bytes of the frame's page j; 255 where it is not kept
unfoldable pub sector_from : Params → List ℕ → Bool → ℕ → ℕ → List ℕ
sector_from p chip kept frame j = cond kept (take p.s (part (page_bytes p) (frame * p.alpha + j) chip)) (replicate p.s 255)

-- the frame, where one is kept, lies on the chip
pub record Source (p : Params) (chip : List ℕ) (kept : Bool) (frame : ℕ) : Type 0 where
  pub fine : allowed p ≡ true
  pub fits : kept ≡ true → frame * frame_bytes p + frame_bytes p ≤ length chip

-- one sector is lent, for sector j of a cluster
pub record SectorAsked (p : Params) (chip : List ℕ) (kept : Bool) (frame j : ℕ) (sector : List ℕ) : Type 0 where
  pub source : Source p chip kept frame
  pub low : j < p.alpha
  pub size : length sector ≡ p.s

-- place i of the lent data is for sector j + i
pub record PlaceAsked (p : Params) (chip : List ℕ) (kept : Bool) (frame j i : ℕ) (bytes : List ℕ) : Type 0 where
  pub source : Source p chip kept frame
  pub low : j + i < p.alpha
  pub fits : i * p.s + p.s ≤ length bytes

-- the lent data is for `count` sectors from sector j on
pub record RunAsked (p : Params) (chip : List ℕ) (kept : Bool) (frame j count : ℕ) (bytes : List ℕ) : Type 0 where
  pub source : Source p chip kept frame
  pub inside : j + count ≤ p.alpha
  pub size : length bytes ≡ count * p.s

-- what a read asks: its sectors lie in one cluster, which can be looked up, and have their place in the lent data
pub record ReadAsked (p : Params) (chip ct bt : List ℕ) (lba count : ℕ) (bytes : List ℕ) : Type 0 where
  pub lookup : Lookup p chip ct bt (cluster_of p lba)
  pub inside : sector_of p lba + count ≤ p.alpha
  pub size : length bytes ≡ count * p.s
