-- What an accepted write makes of its region's whole frames: its plan makes room, and the frame that is put there has the next stamp. So the stamps still say which is the latest, and no
-- cluster gets a whole frame or loses its CT entry but the one that is written. In another region nothing changes.
-- Assumes nothing.
use mathlib.Core.Path.{◌≡◌, refl, sym, ap, ◌∙◌}
use Prim.Native.Nat.{ℕ, ◌+◌, ◌≤◌, ◌<◌}
use native.Mathlib.Nat.{mod-lt}
use native.Mathlib.Omega.{arith}
use native.Mathlib.Decide.{ℕ_discrete}
use Rattle.rules.specs.declared.Params.{Params}
use Rattle.rules.specs.declared.Reply.TheVariants.{Accepted}
use Rattle.rules.specs.Numbers.{region_of}
use Rattle.rules.specs.Tables.{Board, none, stamp_at}
use Rattle.rules.specs.Regions.{View, view}
use Rattle.rules.specs.Requests.{Request, request_cluster, request_region, write}
use Rattle.rules.specs.Write.{Plan, new_frame, next_stamp, plan_frame, plan_of, plan_vblock, written}
use Rattle.rules.specs.Machine.{view_after, with_room}
use Rattle.rules.specs.Replies.{reply_of}
use Rattle.rules.proofs.Admitted.{Admitted, admitted, stamp_left, write_checks, write_free}
use Rattle.rules.proofs.Continues.{Makes}
use Rattle.rules.proofs.FramePut.{Sheet, seg_new, seg_old}
use Rattle.rules.proofs.Frames.{seg_low}
use Rattle.rules.proofs.PlanCases.{plan_case}
use Rattle.rules.proofs.RegionFacts.{Fronts, Neat, neat}
use Rattle.rules.proofs.Stamps.{stood_bounded}
use Rattle.rules.proofs.WritePromise.{makes, write_promise}
use Rattle.rules.proofs.Writes.{sheet, sheet_is}
use Rattle.starts.specs.Stands.{Clear}
use Rattle.starts.specs.Timely.{Timely, WholeAt, frame_stamp}
use Rattle.starts.proofs.Carries.{Carries, carries, room_fronts}
use Rattle.starts.proofs.Timely.{put_old, put_timely, whole_bound, whole_low}

module _ (p : Params) (b : Board) (q : Request) (e : reply_of p b (write q) ≡ Accepted) where
  acc : Admitted p b q
  acc = admitted p b q (write_checks p b q e)

  abbrev region : ℕ
  region = request_region p q

  low : region < p.mu
  low = mod-lt (request_cluster p q) acc.sized.regions

  abbrev here : View
  here = view p b region

  in_order : Neat p region here
  in_order = neat p region here (acc.tidy region low)

  abbrev plan : Plan
  plan = plan_of p here

  abbrev room : View
  room = with_room p here plan

  made : Makes p b region plan
  made = makes p acc.sized b acc.tables region low in_order (write_free p b q e)

  carried : Carries p here room
  carried = carries p acc.sized b acc.tables region low in_order plan (plan_case p acc.sized region here in_order) _ _ _ made

  fronts : Fronts p region room
  fronts = room_fronts p acc.sized b acc.tables region low in_order plan (plan_case p acc.sized region here in_order) _ _ _ made

  own_sheet : Sheet p (plan_vblock plan) (request_cluster p q) (new_frame p here q (next_stamp b region) (plan_vblock plan))
  own_sheet = sheet p b q acc region refl plan made (stamp_left p b q e)

  above : stamp_at b.stamps region < own_sheet.stamp
  unfolding own_sheet
  above =
      let next : next_stamp b region ≡ stamp_at b.stamps region + 1 = unfold next_stamp in refl in
      omega (arith, sheet_is p b q acc region refl plan made (stamp_left p b q e), next)

  -- the frames that the room has are old ones, so none has a stamp above the region's last
  bound : (c u g : ℕ) → WholeAt p room c u g → frame_stamp p room u g ≤ stamp_at b.stamps region
  bound = whole_bound p acc.sized region room fronts (stamp_at b.stamps region) (stood_bounded p here room (stamp_at b.stamps region) made.stood (acc.stamped region low))

  abbrev after : View
  after = view_after p here (next_stamp b region) q

  own_timely : Timely p here → Timely p after
  unfolding view_after
  own_timely t =
      put_timely p acc.sized room (plan_vblock plan) (plan_frame p here plan) (request_cluster p q) (new_frame p here q (next_stamp b region) (plan_vblock plan)) made.base.ready own_sheet
      (stamp_at b.stamps region) bound above (carried.timely t) (λ c u g a. made.base.entries c (whole_low p acc.sized region room fronts c u g a))

  pub written_timely : (r : ℕ) → r < p.mu → Timely p (view p b r) → Timely p (view p (written p b q) r)
  written_timely r h t = go (ℕ_discrete r region)
    where
      go : Dec (r ≡ region) → Timely p (view p (written p b q) r)
      go (yes i) = rw (i, (write_promise p b q e).own) (own_timely (rw i at t))
      go (no ne) = rw ((write_promise p b q e).isolated r h ne) t

  -- ---- the clusters without an entry

  -- a whole frame of another cluster stood before
  back : (d u g : ℕ) → (d ≡ request_cluster p q → ⊥) → WholeAt p after d u g → (u₀ : ℕ) × (g₀ : ℕ) × WholeAt p here d u₀ g₀
  unfolding view_after
  back d u g ne a =
      let o = put_old p acc.sized room (plan_vblock plan) (plan_frame p here plan) (request_cluster p q) (new_frame p here q (next_stamp b region) (plan_vblock plan)) made.base.ready own_sheet d u g ne a in
      let w = carried.back d u g o.1 in
      (w.0, w.1, w.2)

  -- one without an entry is another, and had none
  lives : (d : ℕ) → d < p.C → after.seg_of d ≡ none → (d ≡ request_cluster p q → ⊥) × (here.seg_of d ≡ none)
  unfolding view_after
  lives d h n =
      let ne : d ≡ request_cluster p q → ⊥ = λ x. omega (
        arith,
        sym (ap after.seg_of x) ∙ n,
        seg_new p acc.sized room (plan_vblock plan) (plan_frame p here plan) (request_cluster p q) (new_frame p here q (next_stamp b region) (plan_vblock plan)) made.base.ready own_sheet,
        seg_low p acc.sized (plan_vblock plan) (plan_frame p here plan) made.base.ready.low made.base.ready.mine,
        acc.sized.few,
      ) in (
        ne,
        carried.lives d h (
            sym (seg_old p acc.sized room (plan_vblock plan) (plan_frame p here plan) (request_cluster p q) (new_frame p here q (next_stamp b region) (plan_vblock plan)) made.base.ready own_sheet d ne)
            ∙ n
            ),
      )

  pub written_clear : (d : ℕ) → d < p.C → Clear p b d → Clear p (written p b q) d
  written_clear d h clear = go (ℕ_discrete (region_of p d) region)
    where
      own : (here.seg_of d ≡ none → (u g : ℕ) → WholeAt p here d u g → ⊥) → after.seg_of d ≡ none → (u g : ℕ) → WholeAt p after d u g → ⊥
      own none_left n u g a =
          let w = lives d h n in
          let o = back d u g w.0 a in
          none_left w.1 o.0 o.1 o.2

      go : Dec (region_of p d ≡ region) → Clear p (written p b q) d
      go (no ne) = rw ((write_promise p b q e).isolated (region_of p d) (mod-lt d acc.sized.regions) ne) clear
      go (yes i) = rw (i, (write_promise p b q e).own) (own (rw i at clear))

  -- the cluster that is written has an entry
  pub written_live : Clear p (written p b q) (request_cluster p q)
  written_live = rw (write_promise p b q e).own (λ n u g a. absurd ((lives (request_cluster p q) acc.asked.cluster n).0 refl))
