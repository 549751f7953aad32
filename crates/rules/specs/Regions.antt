-- A region's view of a board, the frames that are valid in it, what its sectors read as, and what the search for a valid frame looks at. The plan of a write and the view after it are
-- functions of the view alone, which is what condition 3 rests on.
-- Assumes nothing.
use Rattle.std.specs.Prelude.{ℕ, ◌*◌, ◌/◌, ◌%◌, Bool, ◌&&◌, cond, List, [], length, take, replicate, ltb, eqb}
use Rattle.lists.specs.Below.{keep_below, most_below}
use Rattle.rules.specs.declared.Params.{Params}
use Rattle.rules.specs.Parameters.{frames}
use Rattle.rules.specs.Numbers.{region_of, vblock_of, place_of, segment_of}
use Rattle.rules.specs.Tables.{Board, none, not_found, ct_at, bt_at, fst_at}
use Rattle.rules.specs.Pages.{block, frame, page, held, stamp_of, programmed, last_in, programmed_down_to}

-- The CT entries of the region's clusters (none for another region's), its FST entry, and the bytes of its virtual blocks, [] for one without a
-- physical block. No physical block number and no wear is in it.
pub record View : Type 0 where
  pub seg_of : ℕ → ℕ
  pub last_seg : ℕ
  pub body : ℕ → List ℕ

-- the bytes of the block that a BT entry names
unfoldable pub body_at : Params → List ℕ → ℕ → List ℕ
body_at p chip n = cond (eqb n none) [] (block p chip n)

unfoldable pub view_of : Params → List ℕ → List ℕ → List ℕ → List ℕ → ℕ → View
view_of p chip ct bt fst r =
    record { seg_of = λ c. cond (eqb (region_of p c) r) (ct_at ct c) none; last_seg = fst_at fst r; body = λ v. cond (ltb v p.gamma) (body_at p chip (bt_at p bt r v)) [] }

abbrev pub view : Params → Board → ℕ → View
view p b r = view_of p b.chip b.ct b.bt b.fst r

-- virtual block v has a physical block
unfoldable pub assigned : View → ℕ → Bool
assigned vw v = ltb 0 (length (vw.body v))

-- "A frame is valid if its cluster's CT entry names its segment and no later frame of that segment holds the same cluster"; it is a whole one, since last_in
-- gives no other
unfoldable pub valid : Params → View → ℕ → ℕ → Bool
valid p vw v f =
    let fr = frame p (vw.body v) f in
    programmed p fr && (eqb (vw.seg_of (held p fr)) (segment_of p v f) && eqb (last_in p (vw.body v) (f / p.beta) (held p fr)) f)

-- the valid frames of virtual block v, in order
unfoldable pub valid_frames : Params → View → ℕ → List ℕ
valid_frames p vw v = keep_below (frames p) (valid p vw v)

-- the bytes of the cluster's valid frame, where CT has one
unfoldable pub frame_of : Params → View → ℕ → List ℕ
frame_of p vw c =
    let sg = vw.seg_of c in
    let blk = vw.body (vblock_of p sg) in
    frame p blk (last_in p blk (place_of p sg) c)

-- "Read. For each sector, the bytes at its place in the cluster's valid frame; 255 if CT has none"
unfoldable pub sector_in : Params → View → ℕ → ℕ → List ℕ
sector_in p vw c j = cond (eqb (vw.seg_of c) none) (replicate p.s 255) (take p.s (page p (frame_of p vw c) j))

unfoldable pub sector : Params → Board → ℕ → ℕ → List ℕ
sector p b c j = sector_in p (view p b (region_of p c)) c j

-- T-08: "The search for a valid frame in a segment goes from the last programmed frame of that segment down and looks at one spare area a frame"; "0 where
-- CT has none"
unfoldable pub looks_in : Params → View → ℕ → ℕ
looks_in p vw c =
    let sg = vw.seg_of c in
    let blk = vw.body (vblock_of p sg) in
    cond (eqb sg none) 0 (programmed_down_to p blk (place_of p sg) (last_in p blk (place_of p sg) c))

unfoldable pub looks_at : Params → Board → ℕ → ℕ
looks_at p b c = looks_in p (view p b (region_of p c)) c

-- ---- the frames of a region, counted through its virtual blocks

unfoldable pub region_frames : Params → ℕ
region_frames p = p.gamma * frames p

unfoldable pub frame_in : Params → View → ℕ → List ℕ
frame_in p vw i = frame p (vw.body (i / frames p)) (i % frames p)

unfoldable pub stamp_in : Params → View → ℕ → ℕ
stamp_in p vw i = stamp_of p (frame_in p vw i)

-- T-07: the "largest on the region's pages, else 0"; the pages of a frame have one stamp
unfoldable pub largest_stamp : Params → View → ℕ
largest_stamp p vw =
    let i = most_below (stamp_in p vw) not_found (region_frames p) (λ i. programmed p (frame_in p vw i)) in
    cond (eqb i not_found) 0 (stamp_in p vw i)
