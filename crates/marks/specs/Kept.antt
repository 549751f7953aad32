-- What the steps make of the marks: a write sets the new frame's mark and clears the old one's, after what its reclaim did; a release clears one.
-- Assumes nothing.
use Rattle.std.specs.Prelude.{ℕ, Bool, true, false, ◌&&◌, cond, eqb, ltb, length}
use Rattle.rules.specs.declared.Params.{Params}
use Rattle.rules.specs.Numbers.{place_of, vblock_of}
use Rattle.rules.specs.Pages.{last_in}
use Rattle.rules.specs.Regions.{View, valid_frames, view}
use Rattle.rules.specs.Tables.{Board, none}
use Rattle.rules.specs.Write.{Plan, continues, opens, plan_frame, plan_of, plan_vblock, reclaims}
use Rattle.rules.specs.Marks.{Marks}
use Rattle.rules.specs.Requests.{Request, request_cluster, request_region}
use Rattle.rules.specs.Machine.{with_room}

-- the marks with that of one frame set so
unfoldable pub put_mark : Marks → ℕ → ℕ → ℕ → Bool → Marks
put_mark m r v f x r' v' f' = cond (eqb r' r && (eqb v' v && eqb f' f)) x (m r' v' f')

-- the marks where of one virtual block the first k frames have one, and no other
unfoldable pub first_marks : Marks → ℕ → ℕ → ℕ → Marks
first_marks m r v k r' v' f' = cond (eqb r' r && eqb v' v) (ltb f' k) (m r' v' f')

-- once the plan has made room: a reclaim's copies, which are valid, stand in the first frames of the block
unfoldable pub room_marks : Params → View → ℕ → Plan → Marks → Marks
room_marks p vw r (continues v f) m = m
room_marks p vw r (opens v) m = m
room_marks p vw r (reclaims v) m = first_marks m r v (length (valid_frames p vw v))

-- without that of the valid frame of cluster c, where CT has one
unfoldable pub without_old : Params → View → ℕ → ℕ → Marks → Marks
without_old p vw r c m =
    let sg = vw.seg_of c in
    cond (eqb sg none) m (put_mark m r (vblock_of p sg) (last_in p (vw.body (vblock_of p sg)) (place_of p sg) c) false)

-- after a write
unfoldable pub written_marks : Params → Board → Request → Marks → Marks
written_marks p b q m =
    let r = request_region p q in
    let vw = view p b r in
    let pl = plan_of p vw in
    put_mark (without_old p (with_room p vw pl) r (request_cluster p q) (room_marks p vw r pl m)) r (plan_vblock pl) (plan_frame p vw pl) true
