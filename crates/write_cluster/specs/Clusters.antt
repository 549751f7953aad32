-- The new cluster, put where a plan has made room.
-- Assumes nothing.
use Rattle.std.specs.Prelude.{◌≡◌, ◌⊎◌, Bool, true, List, ℕ, ◌+◌, ◌*◌, ◌<◌, length, set}
use Rattle.rules.specs.declared.Params.{Params}
use Rattle.rules.specs.Parameters.{allowed, frames, block_bytes}
use Rattle.rules.specs.Numbers.{sector_of, segment_of}
use Rattle.rules.specs.Tables.{Board, none, bt_entry, bt_at, stamp_at}
use Rattle.rules.specs.Regions.{view}
use Rattle.rules.specs.Traces.{frame_ops, replay_chip}
use Rattle.rules.specs.Write.{new_frame, next_stamp}
use Rattle.rules.specs.Requests.{Request, request_cluster, request_region}
use Rattle.chip_frames.specs.Frame.{HostAsked, host_frame, sectors_of}
use Rattle.rules.proofs.RegionKept.{Base}
use Rattle.rules.proofs.Admitted.{Asked}

-- a plan has made room: frame f of virtual block v is the next to be written
pub record Standing (p : Params) (b : Board) (q : Request) (v f : ℕ) : Type 0 where
  pub fine : allowed p ≡ true
  pub chip_length : length b.chip ≡ p.N * block_bytes p
  pub ct_length : length b.ct ≡ p.C
  pub bt_length : length b.bt ≡ p.mu * p.gamma
  pub fst_length : length b.fst ≡ p.mu
  pub stamps_length : length b.stamps ≡ p.mu
  pub left : stamp_at b.stamps (request_region p q) < 4294967295
  pub names : (i : ℕ) → i < p.mu * p.gamma → (bt_entry b.bt i ≡ none) ⊎ (bt_entry b.bt i < p.N)
  pub taken : bt_at p b.bt (request_region p q) v ≡ none → ⊥
  pub base : Base p (request_region p q) (view p b (request_region p q)) v f
  pub asked : Asked p q

-- what the pages of a new cluster ask: frame f of virtual block v's block is erased, and frame fr, where the old cluster is kept, is another
pub record PagesAsked (p : Params) (chip bt stamps : List ℕ) (q : Request) (v f : ℕ) (kept : Bool) (fr : ℕ) : Type 0 where
  pub fine : allowed p ≡ true
  pub cluster : request_cluster p q < p.C
  pub bt_length : length bt ≡ p.mu * p.gamma
  pub stamps_length : length stamps ≡ p.mu
  pub left : stamp_at stamps (request_region p q) < 4294967295
  pub low : v < p.gamma
  pub block : bt_at p bt (request_region p q) v < p.N
  pub frame : f < frames p
  pub host : HostAsked chip p.s p.alpha (bt_at p bt (request_region p q) v * frames p + f) kept fr (sector_of p q.lba) q.count q.bytes

-- its first m pages are programmed, with the region's next stamp, which is then its last
pub record PagesPut (p : Params) (chip bt stamps : List ℕ) (q : Request) (v f : ℕ) (kept : Bool) (fr m : ℕ) (chip' stamps' : List ℕ) : Type 0 where
  pub chip_is : chip' ≡ replay_chip p chip (frame_ops p (bt_at p bt (request_region p q) v) f
      (host_frame p.s p.alpha (sector_of p q.lba) q.count q.bytes (sectors_of p.s p.alpha kept fr chip) (request_cluster p q) (stamp_at stamps (request_region p q) + 1) v) m)
  pub stamps_are : stamps' ≡ set stamps (request_region p q) (stamp_at stamps (request_region p q) + 1)

-- the frame is programmed, CT and FST name its segment, and the region's last stamp is the next one
pub record ClusterPut (p : Params) (b : Board) (q : Request) (v f : ℕ) (chip' ct' fst' stamps' : List ℕ) : Type 0 where
  pub chip : chip' ≡ replay_chip p b.chip
      (frame_ops p (bt_at p b.bt (request_region p q) v) f (new_frame p (view p b (request_region p q)) q (next_stamp b (request_region p q)) v) p.alpha)
  pub ct : ct' ≡ set b.ct (request_cluster p q) (segment_of p v f)
  pub fst : fst' ≡ set b.fst (request_region p q) (segment_of p v f)
  pub stamps : stamps' ≡ set b.stamps (request_region p q) (next_stamp b (request_region p q))
