-- The frame that a write programs.
-- Assumes nothing.
use mathlib.Core.Path.{◌≡◌, refl}
use mathlib.Core.Logic.{◌⊎◌, inl, inr}
use Prim.Native.Nat.{ℕ, ◌+◌, ◌-◌, ◌≤◌, ◌<◌}
use native.Mathlib.Nat.{div-lt_iff_lt-mul}
use native.Mathlib.Omega.{arith}
use mathlib.Core.Bool.{true, false, ◌&&◌}
use lib.Dec.{ltb, leb}
use borrow.Author.Tests.{ne_eqb, lt-ltb, le-leb, ltb-true, leb-true}
use lib.ListN.{length, take, length-append, length-replicate}
use lib.Seq.{take_at, drop_at, length-take-le}
use Rattle.lists.specs.Parts.{part}
use Rattle.lists.proofs.Joins.{join_length, join_part}
use Rattle.lists.proofs.Parts.{next, part_length}
use Rattle.lists.proofs.Tests.{and_left, and_right, so}
use Rattle.rules.specs.declared.Params.{Params}
use Rattle.rules.specs.Parameters.{block_bytes, frame_bytes, frames, page_bytes}
use Rattle.rules.specs.Numbers.{sector_of, vblock_of}
use Rattle.rules.specs.Tables.{none}
use Rattle.rules.specs.Pages.{bytes32, frame, page, spare, spare_bytes}
use Rattle.rules.specs.Regions.{View, assigned, frame_of, sector_in}
use Rattle.rules.specs.Write.{new_frame, new_page, new_sector}
use Rattle.rules.specs.Requests.{Request, request_cluster}
use Rattle.rules.proofs.FramePut.{Sheet}
use Rattle.rules.proofs.Admitted.{Asked}
use Rattle.rules.proofs.Sizes.{Sizes}
use Rattle.rules.proofs.RegionFacts.{Entry}

-- the blocks that a region has are whole
abbrev pub Whole : Params → View → Type 0
Whole p vw = (v : ℕ) → v < p.gamma → assigned vw v ≡ true → length (vw.body v) ≡ block_bytes p

module _ (p : Params) (z : Sizes p) (vw : View) (whole : Whole p vw) where
  -- a sector that is read has s bytes
  entry_block : (c : ℕ) → Entry p vw c → vblock_of p (vw.seg_of c) < p.gamma
  entry_block c e = (div-lt_iff_lt-mul z.segments).1 e.low

  frame_length : (c : ℕ) → Entry p vw c → length (frame_of p vw c) ≡ frame_bytes p
  unfolding frame_of frame
  frame_length c e =
      part_length (frame_bytes p) _ _ (rw (whole (vblock_of p (vw.seg_of c)) (entry_block c e) e.has) (unfold block_bytes in next (frame_bytes p) _ (frames p) e.held))

  page_size : (c j : ℕ) → j < p.alpha → Entry p vw c → length (page p (frame_of p vw c) j) ≡ page_bytes p
  unfolding page frame_bytes
  page_size c j h e = part_length (page_bytes p) j (frame_of p vw c) (rw (frame_length c e) (next (page_bytes p) j p.alpha h))

  data_fits : (c j : ℕ) → j < p.alpha → Entry p vw c → p.s ≤ length (page p (frame_of p vw c) j)
  unfolding page_bytes
  data_fits c j h e = rw (page_size c j h e) (omega arith)

  pub sector_length : (c j : ℕ) → j < p.alpha → (vw.seg_of c ≡ none) ⊎ Entry p vw c → length (sector_in p vw c j) ≡ p.s
  unfolding sector_in
  sector_length c j h (inl e) = rw e (length-replicate p.s 255)
  sector_length c j h (inr e) =
      rw (ne_eqb (vw.seg_of c) none (λ x. omega (arith, e.low, z.few))) (length-take-le p.s (page p (frame_of p vw c) j) (data_fits c j h e))

  module _ (q : Request) (ask : Asked p q) (entry : (vw.seg_of (request_cluster p q) ≡ none) ⊎ Entry p vw (request_cluster p q)) where
    -- within the request: the given bytes; else as before
    pub new_given : (j : ℕ) → sector_of p q.lba ≤ j → j < sector_of p q.lba + q.count → new_sector p vw q j ≡ part p.s (j - sector_of p q.lba) q.bytes
    unfolding new_sector
    new_given j a b = rw (le-leb (sector_of p q.lba) j a, lt-ltb j (sector_of p q.lba + q.count) b)

    new_length : (j : ℕ) → j < p.alpha → length (new_sector p vw q j) ≡ p.s
    unfolding new_sector
    new_length j h = go (so (leb (sector_of p q.lba) j && ltb j (sector_of p q.lba + q.count)))
      where
        go : (leb (sector_of p q.lba) j && ltb j (sector_of p q.lba + q.count) ≡ true) ⊎ (leb (sector_of p q.lba) j && ltb j (sector_of p q.lba + q.count) ≡ false)
            → length (new_sector p vw q j) ≡ p.s
        go (inl e) =
            let a = leb-true (sector_of p q.lba) j (and_left (leb (sector_of p q.lba) j) _ e) in
            let b = ltb-true j (sector_of p q.lba + q.count) (and_right (leb (sector_of p q.lba) j) e) in
            rw e (part_length p.s (j - sector_of p q.lba) q.bytes (rw ask.bytes (next p.s (j - sector_of p q.lba) q.count (omega arith))))
        go (inr e) = rw e (sector_length (request_cluster p q) j h entry)

    -- with stamp t, in virtual block v
    module _ (t v : ℕ) where
      page_length : (j : ℕ) → j < p.alpha → length (new_page p vw q t v j) ≡ page_bytes p
      unfolding new_page page_bytes spare_bytes bytes32
      page_length j h = rw (length-append, new_length j h)

      pub page_new : (j : ℕ) → j < p.alpha → page p (new_frame p vw q t v) j ≡ new_page p vw q t v j
      unfolding page new_frame
      page_new j h = join_part (page_bytes p) p.alpha (new_page p vw q t v) page_length j h

      -- what is read from it
      pub data_new : (j : ℕ) → j < p.alpha → take p.s (page p (new_frame p vw q t v) j) ≡ new_sector p vw q j
      data_new j h = rw (page_new j h) (unfold new_page in take_at (new_sector p vw q j) _ p.s (new_length j h))

      pub host_sheet : t < 4294967296 → Sheet p v (request_cluster p q) (new_frame p vw q t v)
      host_sheet early =
          record {
            whole = unfold new_frame frame_bytes in join_length (page_bytes p) p.alpha (new_page p vw q t v) page_length;
            small = omega (arith, ask.cluster, z.clusters);
            stamp = t;
            early = early;
            spares = λ j h. unfold spare in rw (page_new j h) (unfold new_page in drop_at (new_sector p vw q j) _ p.s (new_length j h));
          }

      pub host_stamp : (early : t < 4294967296) → (host_sheet early).stamp ≡ t
      unfolding host_sheet
      host_stamp early = refl
