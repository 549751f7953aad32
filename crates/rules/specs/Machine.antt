-- The region's own machine: the view after a write and after a release, from the view before it alone. No call is defined by what stands here. The proofs
-- show that it is what the calls leave, and condition 3 is read off it.
-- Assumes nothing.
use Rattle.std.specs.Prelude.{ℕ, suc, List, [], ◌∷◌, replicate}
use Rattle.lists.specs.Below.{updated}
use Rattle.lists.specs.Parts.{put_part}
use Rattle.rules.specs.declared.Params.{Params}
use Rattle.rules.specs.Parameters.{frame_bytes, block_bytes}
use Rattle.rules.specs.Numbers.{segment_of}
use Rattle.rules.specs.Tables.{none}
use Rattle.rules.specs.Pages.{held}
use Rattle.rules.specs.Regions.{View}
use Rattle.rules.specs.Requests.{Request, request_cluster}
use Rattle.rules.specs.Write.{Plan, continues, opens, reclaims, copies, new_frame, plan_frame, plan_of, plan_vblock}

-- ---- after a write

unfoldable pub erased_block : Params → List ℕ
erased_block p = replicate (block_bytes p) 255

-- "are copied to it in order from frame 0"
unfoldable pub put_frames : Params → ℕ → List (List ℕ) → List ℕ → List ℕ
put_frames p to [] blk = blk
put_frames p to (x ∷ xs) blk = put_frames p (suc to) xs (put_part (frame_bytes p) to x blk)

-- "and CT follows each"
unfoldable pub follow : Params → ℕ → ℕ → List (List ℕ) → (ℕ → ℕ) → ℕ → ℕ
follow p v to [] seg = seg
follow p v to (x ∷ xs) seg = follow p v (suc to) xs (updated seg (held p x) (segment_of p v to))

-- the view once the plan has made room
unfoldable pub with_room : Params → View → Plan → View
with_room p vw (continues v f) = vw
with_room p vw (opens v) = record { seg_of = vw.seg_of; last_seg = vw.last_seg; body = updated vw.body v (erased_block p) }
with_room p vw (reclaims v) =
    let xs = copies p vw (reclaims v) in
    record { seg_of = follow p v 0 xs vw.seg_of; last_seg = vw.last_seg; body = updated vw.body v (put_frames p 0 xs (erased_block p)) }

-- frame f of virtual block v is x, of cluster c, and "Then CT and FST name the segment just written"
unfoldable pub with_frame : Params → View → ℕ → ℕ → ℕ → List ℕ → View
with_frame p vw v f c x =
    record {
      seg_of = updated vw.seg_of c (segment_of p v f);
      last_seg = segment_of p v f;
      body = updated vw.body v (put_part (frame_bytes p) f x (vw.body v));
    }

-- with stamp t
unfoldable pub view_after : Params → View → ℕ → Request → View
view_after p vw t q =
    let pl = plan_of p vw in
    with_frame p (with_room p vw pl) (plan_vblock pl) (plan_frame p vw pl) (request_cluster p q) (new_frame p vw q t (plan_vblock pl))

-- ---- after a release

-- the view without cluster c
unfoldable pub without : View → ℕ → View
without vw c = record { seg_of = updated vw.seg_of c none; last_seg = vw.last_seg; body = vw.body }
