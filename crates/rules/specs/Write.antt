-- Document 01, "Write", "Reclaim" and "Free block". Where a write goes, its plan, and the cluster that it writes follow from the region's view
-- alone; on the board it is a trace and the tables that follow it.
-- Assumes nothing.
use Rattle.std.specs.Prelude.{ℕ, suc, ◌+◌, ◌-◌, ◌*◌, Bool, true, false, not, ◌&&◌, cond, List, [], ◌∷◌, ◌++◌, map, length, set, leb, ltb, eqb}
use Rattle.lists.specs.Below.{join_below, first_below, least_below}
use Rattle.lists.specs.Parts.{part}
use Rattle.rules.specs.declared.Params.{Params}
use Rattle.rules.specs.Parameters.{frames}
use Rattle.rules.specs.Numbers.{sector_of, vblock_of, segment_of}
use Rattle.rules.specs.Tables.{Board, none, not_found, bt_at, bst_at, wear_at, stamp_at}
use Rattle.rules.specs.Pages.{frame, spare_bytes, held, filled}
use Rattle.rules.specs.Regions.{View, view, assigned, valid_frames, sector_in}
use Rattle.rules.specs.Traces.{Op, erase_ops, erased_state, frame_ops, frames_ops, finish}
use Rattle.rules.specs.Requests.{Request, request_cluster, request_region}

-- ---- the plan

-- `continues v f`: frame f of the open virtual block v. `opens v`: v takes a free block, frame 0. `reclaims v`: v's valid frames go to a free
-- block first, and the write takes the next frame
pub data Plan : Type 0 where
  continues : ℕ → ℕ → Plan
  opens : ℕ → Plan
  reclaims : ℕ → Plan

-- there is an open block, and it is not full
unfoldable pub has_room : Params → View → Bool
has_room p vw = not (eqb vw.last_seg none) && ltb (filled p (vw.body (vblock_of p vw.last_seg))) (frames p)

-- "the lowest virtual block without a physical block"
unfoldable pub lowest_unassigned : Params → View → ℕ
lowest_unassigned p vw = first_below not_found p.gamma (λ v. not (assigned vw v))

-- "The victim is the virtual block with fewest valid frames, the lowest on a tie"
unfoldable pub victim : Params → View → ℕ
victim p vw = least_below (λ v. length (valid_frames p vw v)) not_found p.gamma (λ v. true)

-- "It goes to the lowest erased frame of the open block", which is the one after its programmed ones. "If there is no open block or it is full: the
-- lowest virtual block without a physical block takes a free block, frame 0. If all are assigned, reclaim first"
unfoldable pub plan_of : Params → View → Plan
plan_of p vw =
    let o = vblock_of p vw.last_seg in
    let v = lowest_unassigned p vw in
    cond (has_room p vw) (continues o (filled p (vw.body o))) (cond (eqb v not_found) (reclaims (victim p vw)) (opens v))

-- the plan's virtual block
unfoldable pub plan_vblock : Plan → ℕ
plan_vblock (continues v f) = v
plan_vblock (opens v) = v
plan_vblock (reclaims v) = v

-- the plan takes a free block
unfoldable pub takes_block : Plan → Bool
takes_block (continues v f) = false
takes_block (opens v) = true
takes_block (reclaims v) = true

-- "The victim's valid frames, the old frame of the cluster being written included, are copied"
unfoldable pub copies : Params → View → Plan → List (List ℕ)
copies p vw (continues v f) = []
copies p vw (opens v) = []
copies p vw (reclaims v) = map (frame p (vw.body v)) (valid_frames p vw v)

-- "The write takes the next frame"
unfoldable pub plan_frame : Params → View → Plan → ℕ
plan_frame p vw (continues v f) = f
plan_frame p vw (opens v) = 0
plan_frame p vw (reclaims v) = length (valid_frames p vw v)

-- "1 erase if it reclaimed, else 0"
unfoldable pub plan_erases : Plan → ℕ
plan_erases (continues v f) = 0
plan_erases (opens v) = 0
plan_erases (reclaims v) = 1

-- ---- the new cluster

-- "The new cluster is the old one (all 255 if CT has none) with the given sectors replaced": its sector j, its page j, its frame
unfoldable pub new_sector : Params → View → Request → ℕ → List ℕ
new_sector p vw q j =
    cond (leb (sector_of p q.lba) j && ltb j (sector_of p q.lba + q.count))
    (part p.s (j - sector_of p q.lba) q.bytes)
    (sector_in p vw (request_cluster p q) j)

-- with stamp t, in virtual block v
unfoldable pub new_page : Params → View → Request → ℕ → ℕ → ℕ → List ℕ
new_page p vw q t v j = new_sector p vw q j ++ spare_bytes (request_cluster p q) j t v

unfoldable pub new_frame : Params → View → Request → ℕ → ℕ → List ℕ
new_frame p vw q t v = join_below p.alpha (new_page p vw q t v)

-- ---- the write on the board

-- "Free block. The one with the lowest wear, the lowest number on a tie"
unfoldable pub free_block : Params → List ℕ → List ℕ → ℕ
free_block p bst wear = least_below (wear_at wear) not_found p.N (λ n. eqb (bst_at bst n) 0)

-- the physical block that is written
unfoldable pub plan_block : Params → Board → ℕ → Plan → ℕ
plan_block p b r (continues v f) = bt_at p b.bt r v
plan_block p b r (opens v) = free_block p b.bst b.wear
plan_block p b r (reclaims v) = free_block p b.bst b.wear

-- "The victim is erased", and marked where that wears it out
unfoldable pub victim_ops : Params → Board → ℕ → Plan → List Op
victim_ops p b r (continues v f) = []
victim_ops p b r (opens v) = []
victim_ops p b r (reclaims v) = erase_ops p b.wear (bt_at p b.bt r v)

-- the operations that make room, copies before the erase; then the new frame's
unfoldable pub room_ops : Params → Board → ℕ → Plan → List Op
room_ops p b r pl = frames_ops p (plan_block p b r pl) 0 (copies p (view p b r) pl) ++ victim_ops p b r pl

-- T-07: "A host write takes the next; copies keep theirs"
unfoldable pub next_stamp : Board → ℕ → ℕ
next_stamp b r = stamp_at b.stamps r + 1

unfoldable pub plan_ops : Params → Board → ℕ → Request → Plan → List Op
plan_ops p b r q pl =
    let vw = view p b r in
    room_ops p b r pl ++ frame_ops p (plan_block p b r pl) (plan_frame p vw pl) (new_frame p vw q (next_stamp b r) (plan_vblock pl)) p.alpha

-- "CT follows each" copy, on the table
unfoldable pub follow_ct : Params → ℕ → ℕ → List (List ℕ) → List ℕ → List ℕ
follow_ct p v to [] ct = ct
follow_ct p v to (x ∷ xs) ct = follow_ct p v (suc to) xs (set ct (held p x) (segment_of p v to))

-- "takes a free block"; "The victim .. becomes free", T-12: or reserved
unfoldable pub plan_bst : Params → Board → ℕ → Plan → List ℕ
plan_bst p b r (continues v f) = b.bst
plan_bst p b r (opens v) = set b.bst (free_block p b.bst b.wear) 1
plan_bst p b r (reclaims v) =
    let n = bt_at p b.bt r v in
    set (set b.bst (free_block p b.bst b.wear) 1) n (erased_state p b.wear n)

-- "BT names the new block"; "Then CT and FST name the segment just written"
unfoldable pub written_by : Params → Board → ℕ → Request → Plan → Board
written_by p b r q pl =
    let vw = view p b r in
    let sg = segment_of p (plan_vblock pl) (plan_frame p vw pl) in
    finish p b (plan_ops p b r q pl)
    (record {
      ct = set (follow_ct p (plan_vblock pl) 0 (copies p vw pl) b.ct) (request_cluster p q) sg;
      bt = set b.bt (r * p.gamma + plan_vblock pl) (plan_block p b r pl);
      fst = set b.fst r sg;
      bst = plan_bst p b r pl;
      stamps = set b.stamps r (next_stamp b r);
    })

unfoldable pub write_ops : Params → Board → Request → List Op
write_ops p b q =
    let r = request_region p q in
    plan_ops p b r q (plan_of p (view p b r))

unfoldable pub written : Params → Board → Request → Board
written p b q =
    let r = request_region p q in
    written_by p b r q (plan_of p (view p b r))
