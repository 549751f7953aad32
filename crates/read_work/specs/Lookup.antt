-- Where a cluster's valid frame stands on the chip: what the lookup asks of the tables, and what it finds.
-- Assumes nothing.
use Rattle.std.specs.Prelude.{◌≡◌, Bool, true, not, cond, List, ℕ, ◌+◌, ◌*◌, ◌≤◌, ◌<◌, eqb, length, None, Option, Some}
use Rattle.rules.specs.declared.Params.{Params}
use Rattle.rules.specs.Parameters.{allowed, frames, block_bytes}
use Rattle.rules.specs.Numbers.{region_of, vblock_of, place_of}
use Rattle.rules.specs.Tables.{none, ct_at, bt_at}
use Rattle.rules.specs.Pages.{block, last_in}
use Rattle.rules.specs.Regions.{looks_in, view_of}
use Rattle.read_work.specs.declared.Spot.{Spot}

-- where a cluster stands: its frame, its virtual block, and the frame within that; 0 where it is not kept
abbrev pub spot_frame : Option Spot → ℕ
spot_frame None = 0
spot_frame (Some s) = s.frame

abbrev pub spot_vblock : Option Spot → ℕ
spot_vblock None = 0
spot_vblock (Some s) = s.vblock.0

abbrev pub spot_inner : Option Spot → ℕ
spot_inner None = 0
spot_inner (Some s) = s.inner

-- the physical block that has the segment which CT names for cluster c
unfoldable pub block_for : Params → List ℕ → List ℕ → ℕ → ℕ
block_for p ct bt c = bt_at p bt (region_of p c) (vblock_of p (ct_at ct c))

-- the last frame of that segment that holds the cluster, counted within the block
unfoldable pub last_for : Params → List ℕ → List ℕ → List ℕ → ℕ → ℕ
last_for p chip ct bt c = last_in p (block p chip (block_for p ct bt c)) (place_of p (ct_at ct c)) c

-- the same frame, counted over the chip
unfoldable pub frame_for : Params → List ℕ → List ℕ → List ℕ → ℕ → ℕ
frame_for p chip ct bt c = block_for p ct bt c * frames p + last_for p chip ct bt c

-- CT's entry leads to a block of the chip in which a frame holds the cluster
pub record Leads (p : Params) (chip ct bt : List ℕ) (c : ℕ) : Type 0 where
  pub vblock : vblock_of p (ct_at ct c) < p.gamma
  pub block : block_for p ct bt c < p.N
  pub held : last_for p chip ct bt c < frames p

-- what the lookup of cluster c asks: the lengths, and that its CT entry is none or leads to its frame
pub record Lookup (p : Params) (chip ct bt : List ℕ) (c : ℕ) : Type 0 where
  pub fine : allowed p ≡ true
  pub chip_length : length chip ≡ p.N * block_bytes p
  pub ct_length : length ct ≡ p.C
  pub bt_length : length bt ≡ p.mu * p.gamma
  pub low : c < p.C
  pub leads : (ct_at ct c ≡ none → ⊥) → Leads p chip ct bt c

-- what it finds: whether CT has a segment for the cluster, and then the number of its valid frame
pub record Stands (p : Params) (chip ct bt : List ℕ) (c : ℕ) (kept : Bool) (frame : ℕ) : Type 0 where
  pub has : kept ≡ not (eqb (ct_at ct c) none)
  pub at : frame ≡ cond (eqb (ct_at ct c) none) 0 (frame_for p chip ct bt c)

-- and the virtual block of that frame, and its number there
pub record Within (p : Params) (chip ct bt : List ℕ) (c : ℕ) (kept : Bool) (v f : ℕ) : Type 0 where
  pub vblock : kept ≡ true → v ≡ vblock_of p (ct_at ct c)
  pub inner : kept ≡ true → f ≡ last_for p chip ct bt c

-- and how many spare areas it looked at, which no FST entry matters for
pub record Looked (p : Params) (chip ct bt : List ℕ) (c looks : ℕ) : Type 0 where
  pub is : (fst : List ℕ) → looks ≡ looks_in p (view_of p chip ct bt fst (region_of p c)) c
  pub few : looks ≤ 16
