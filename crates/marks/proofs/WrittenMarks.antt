-- The table of the board that an accepted write leaves: its region's marks are those once room is made, without the old frame's and with the
-- new one's; every other region's view, and so its marks, are what they were.
-- Assumes nothing.
use mathlib.Core.Path.{◌≡◌, refl, sym, ◌∙◌}
use Prim.Native.Nat.{ℕ, ◌<◌}
use native.Mathlib.Nat.{mod-lt}
use native.Mathlib.Decide.{ℕ_discrete}
use borrow.Author.Tests.{eq-eqb, ne_eqb}
use Rattle.rules.specs.declared.Params.{Params}
use Rattle.rules.specs.declared.Reply.TheVariants.{Accepted}
use Rattle.rules.specs.Regions.{View, view}
use Rattle.rules.specs.Replies.{reply_of}
use Rattle.rules.specs.Tables.{Board}
use Rattle.rules.specs.Write.{Plan, new_frame, plan_frame, plan_of, plan_vblock, written, next_stamp}
use Rattle.rules.proofs.Admitted.{Admitted, admitted, stamp_left, write_checks, write_free}
use Rattle.rules.proofs.Continues.{Makes}
use Rattle.rules.proofs.FramePut.{Sheet}
use Rattle.rules.proofs.NewFrames.{host_sheet}
use Rattle.rules.proofs.RegionKept.{base_fronts}
use Rattle.rules.proofs.RegionFacts.{Neat, neat}
use Rattle.rules.proofs.Views.{body_size}
use Rattle.rules.proofs.WritePromise.{makes, write_promise}
use Rattle.marks.specs.Kept.{put_mark, room_marks, written_marks}
use Rattle.rules.specs.Requests.{Request, write, request_cluster, request_region}
use Rattle.rules.specs.Machine.{view_after, with_room}
use Rattle.rules.specs.Marks.{marks_in, marks_of, marks_on, table_of}
use Rattle.marks.proofs.Tables.{table_cong}
use Rattle.marks.proofs.FrameMarks.{frame_marks}
use Rattle.marks.proofs.OldMarks.{old_cleared, old_elsewhere}
use Rattle.marks.proofs.RoomMarks.{room_elsewhere, room_marks_lem}

module _ (p : Params) (b : Board) (q : Request) (e : reply_of p b (write q) ≡ Accepted) where
  abbrev r : ℕ
  r = request_region p q

  abbrev vw : View
  vw = view p b r

  abbrev pl : Plan
  pl = plan_of p vw

  acc : Admitted p b q
  acc = admitted p b q (write_checks p b q e)

  region : r < p.mu
  region = mod-lt (request_cluster p q) acc.sized.regions

  tidy : Neat p r vw
  tidy = neat p r vw (acc.tidy r region)

  makes_room : Makes p b r pl
  makes_room = makes p acc.sized b acc.tables r region tidy (write_free p b q e)

  sheet : Sheet p (plan_vblock pl) (request_cluster p q) (new_frame p vw q (next_stamp b r) (plan_vblock pl))
  sheet = host_sheet p acc.sized vw (λ v h a. body_size p acc.sized b acc.tables r v region h a) q acc.asked (tidy.entries (request_cluster p q) acc.asked.cluster)
      (next_stamp b r) (plan_vblock pl) (stamp_left p b q e)

  mark_at : (r' v f : ℕ) → r' < p.mu → v < p.gamma → marks_on p (written p b q) r' v f ≡ written_marks p b q (marks_on p b) r' v f
  unfolding marks_in written_marks put_mark
  mark_at r' v f h low = go (ℕ_discrete r' r)
    where
      go : Dec (r' ≡ r) → marks_on p (written p b q) r' v f ≡ written_marks p b q (marks_on p b) r' v f
      go (yes k) =
          rw (
            k,
            (write_promise p b q e).own,
            eq-eqb r r refl,
            old_cleared p acc.sized (with_room p vw pl) r (request_cluster p q) (room_marks p vw r pl (marks_on p b))
                (base_fronts p acc.sized r (with_room p vw pl) (plan_vblock pl) (plan_frame p vw pl) makes_room.base) (makes_room.base.entries (request_cluster p q) acc.asked.cluster) v f low
                (room_marks_lem p acc.sized b acc.tables r region tidy (marks_on p b) v f refl),
          )
          (unfold view_after in frame_marks p acc.sized (with_room p vw pl) (plan_vblock pl) (plan_frame p vw pl) (request_cluster p q) (new_frame p vw q (next_stamp b r) (plan_vblock pl)) makes_room.base.ready sheet v f)
      go (no k) =
          rw ((write_promise p b q e).isolated r' h k, ne_eqb r' r k)
          (sym (old_elsewhere p acc.sized (with_room p vw pl) r (request_cluster p q) (room_marks p vw r pl (marks_on p b)) r' v f k ∙ room_elsewhere p vw r pl (marks_on p b) r' v f k))

  pub written_marks_lem : marks_of p (written p b q) ≡ table_of p (written_marks p b q (marks_on p b))
  written_marks_lem = table_cong p _ _ (λ r' v f h low k. mark_at r' v f h low)
