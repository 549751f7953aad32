-- The check as the code goes: over the lent tables, in the order that is cheapest, with no search but in one region.
-- Assumes nothing.
use Rattle.std.specs.Prelude.{◌≡◌, ◌&&◌, Bool, cond, not, true, List, ◌*◌, ◌-◌, ℕ, eqb, ltb, length}
use Rattle.lists.specs.Below.{all_below}
use Rattle.rules.specs.declared.Params.{Params}
use Rattle.rules.specs.Numbers.{place_of, region_of, segment_of, vblock_of}
use Rattle.rules.specs.Orderly.{block_rule, bst_rule, bt_rule, free_rule, stamps_to}
use Rattle.rules.specs.Pages.{block, filled, frame, last_in, programmed}
use Rattle.rules.specs.Parameters.{allowed, chip_bytes, frames}
use Rattle.rules.specs.Tables.{bst_at, bt_at, ct_at, fst_at, none}
use Rattle.check_tables.specs.Entries.{differs, empty_at, used_ok}

-- a named block is named once in its region, is used, and is a block of that region
unfoldable pub vblock_ok : Params → List ℕ → List ℕ → List ℕ → ℕ → ℕ → Bool
vblock_ok p chip bt bst r v =
    cond (eqb (bt_at p bt r v) none) true
    (differs p bt r v && (eqb (bst_at bst (bt_at p bt r v)) 1 && block_rule p r v (block p chip (bt_at p bt r v))))

-- how many of its frames are programmed, where it is so: all of them where there is no block; 0 where it is not so
unfoldable pub vblock_frames : Params → List ℕ → List ℕ → List ℕ → ℕ → ℕ → ℕ
vblock_frames p chip bt bst r v = cond (vblock_ok p chip bt bst r v) (cond (eqb (bt_at p bt r v) none) (frames p) (filled p (block p chip (bt_at p bt r v)))) 0

-- no frame of its block has a stamp larger than `last`
unfoldable pub vblock_stamps : Params → List ℕ → List ℕ → ℕ → ℕ → ℕ → Bool
vblock_stamps p chip bt last r v = cond (eqb (bt_at p bt r v) none) true (stamps_to p last (block p chip (bt_at p bt r v)))

-- how many of its frames are programmed, where it is so too
unfoldable pub vblock_frames_to : Params → List ℕ → List ℕ → List ℕ → ℕ → ℕ → ℕ → ℕ
vblock_frames_to p chip bt bst last r v = cond (vblock_stamps p chip bt last r v) (vblock_frames p chip bt bst r v) 0

-- virtual block v is the open block, or has no block, or is full: its frames are programmed in order, so the last one tells
unfoldable pub full_ok : Params → List ℕ → List ℕ → ℕ → ℕ → ℕ → Bool
full_ok p chip bt r o v =
    cond (eqb v o) true (cond (eqb (bt_at p bt r v) none) true (programmed p (frame p (block p chip (bt_at p bt r v)) (frames p - 1))))

-- segment sg is that of the last programmed frame of one of the region's blocks, and every other block is full
unfoldable pub open_ok : Params → List ℕ → List ℕ → ℕ → ℕ → Bool
open_ok p chip bt r sg =
    ltb sg (p.gamma * p.d) && (not (eqb (bt_at p bt r (vblock_of p sg)) none)
    && (eqb sg (segment_of p (vblock_of p sg) (filled p (block p chip (bt_at p bt r (vblock_of p sg))) - 1))
    && all_below p.gamma (full_ok p chip bt r (vblock_of p sg))))

-- FST is none exactly if the region has no block
unfoldable pub fst_ok : Params → List ℕ → List ℕ → List ℕ → ℕ → Bool
fst_ok p chip bt fst r = cond (empty_at p bt r) (eqb (fst_at fst r) none) (open_ok p chip bt r (fst_at fst r))

-- segment sg of region r holds a programmed frame of cluster c
unfoldable pub segment_ok : Params → List ℕ → List ℕ → ℕ → ℕ → ℕ → Bool
segment_ok p chip bt r c sg =
    ltb sg (p.gamma * p.d) && (not (eqb (bt_at p bt r (vblock_of p sg)) none)
    && ltb (last_in p (block p chip (bt_at p bt r (vblock_of p sg))) (place_of p sg) c) (frames p))

-- the entry of cluster c, of region r, is none, or names such a segment
unfoldable pub cluster_ok : Params → List ℕ → List ℕ → List ℕ → ℕ → ℕ → Bool
cluster_ok p chip ct bt r c = cond (eqb (ct_at ct c) none) true (segment_ok p chip bt r c (ct_at ct c))

-- the same of every cluster of region r
unfoldable pub clusters_ok : Params → List ℕ → List ℕ → List ℕ → ℕ → Bool
clusters_ok p chip ct bt r = all_below p.C (λ c. cond (eqb (region_of p c) r) (cluster_ok p chip ct bt r c) true)

-- the rules of region r
unfoldable pub region_ok : Params → List ℕ → List ℕ → List ℕ → List ℕ → List ℕ → ℕ → Bool
region_ok p chip ct bt fst bst r = all_below p.gamma (vblock_ok p chip bt bst r) && (fst_ok p chip bt fst r && clusters_ok p chip ct bt r)

-- the rules of the tables that look at no byte of the chip, and as many blocks used as named: each block that BT names is used and is named once, so
-- then each used block is named
unfoldable pub tables_ok : Params → List ℕ → List ℕ → Bool
tables_ok p bt bst = bst_rule p bst && (bt_rule p bt && used_ok p bt bst)

-- the rules that look at the chip
unfoldable pub chip_ok : Params → List ℕ → List ℕ → List ℕ → List ℕ → List ℕ → Bool
chip_ok p chip ct bt fst bst = free_rule p chip bst && all_below p.mu (region_ok p chip ct bt fst bst)

-- the lent chip and tables, of the right lengths
pub record Lengths (p : Params) (chip ct bt fst bst : List ℕ) : Type 0 where
  pub fine : allowed p ≡ true
  pub chip_length : length chip ≡ chip_bytes p
  pub ct_length : length ct ≡ p.C
  pub bt_length : length bt ≡ p.mu * p.gamma
  pub fst_length : length fst ≡ p.mu
  pub bst_length : length bst ≡ p.N

-- the lent chip and BT, of which every entry is none or names a block
pub record Lent (p : Params) (chip bt : List ℕ) : Type 0 where
  pub fine : allowed p ≡ true
  pub chip_length : length chip ≡ chip_bytes p
  pub bt_length : length bt ≡ p.mu * p.gamma
  pub names : bt_rule p bt ≡ true
