-- The room of a region, the frames of its virtual blocks that are not programmed, and what an accepted write does to it: one that continues or opens a block takes one
-- frame of it; one that reclaims finds none, since every block is full, and leaves G − 1 frames or more, since it copies at most a γ-th of L.
-- Assumes nothing.
use Prim.Native.Nat.{ℕ, suc, ◌+◌, ◌-◌, ◌*◌, ◌≤◌, ◌<◌}
use mathlib.Core.Path.{◌≡◌, refl, sym, ap, ◌∙◌}
use mathlib.Core.Logic.{◌⊎◌, inl, inr}
use mathlib.Core.Bool.{true, false}
use mathlib.Core.List.{List, [], ◌∷◌}
use native.Mathlib.Nat.{mod-lt}
use native.Mathlib.Omega.{arith}
use lib.Dec.{eqb, ltb}
use lib.ListN.{length}
use borrow.Author.Tests.{ltb-false}
use Rattle.lists.specs.Below.{sum_below}
use Rattle.lists.specs.Parts.{all_are}
use Rattle.lists.proofs.Joins.{all_are_part}
use Rattle.lists.proofs.Sums.{sum_but, sum_le, sum_same, sum_zero}
use Rattle.lists.proofs.Tests.{count_is, so}
use Rattle.rules.specs.declared.Params.{Params}
use Rattle.rules.specs.declared.Reply.TheVariants.{Accepted}
use Rattle.rules.specs.Parameters.{frame_bytes, frames}
use Rattle.rules.specs.Tables.{Board, none}
use Rattle.rules.specs.Pages.{filled, frame}
use Rattle.rules.specs.Regions.{View, assigned, valid_frames, view}
use Rattle.rules.specs.Requests.{Request, format, request_cluster, request_region, write}
use Rattle.rules.specs.Format.{formatted}
use Rattle.rules.specs.Release.{released}
use Rattle.rules.specs.Start.{started}
use Rattle.rules.specs.Write.{Plan, has_room, lowest_unassigned, new_frame, plan_erases, plan_frame, plan_of, plan_vblock, victim, written, next_stamp}
use Rattle.rules.specs.Machine.{view_after, with_frame, with_room, without}
use Rattle.rules.specs.Replies.{reply_of}
use Rattle.rules.specs.Words.{OpensListed, PlanListed, ReclaimsListed}
use Rattle.rules.proofs.Admitted.{Admitted, admitted, stamp_left, write_checks, write_free}
use Rattle.rules.proofs.Continues.{Makes}
use Rattle.rules.proofs.FormatPromise.{lacks}
use Rattle.rules.proofs.FramePut.{Sheet, body_old}
use Rattle.rules.proofs.Frames.{erased_not}
use Rattle.rules.proofs.Opens.{all_full}
use Rattle.rules.proofs.RegionFacts.{Neat, neat}
use Rattle.rules.proofs.RegionKept.{filled_new}
use Rattle.rules.proofs.Releases.{released_view}
use Rattle.rules.proofs.Sizes.{Sizes}
use Rattle.rules.proofs.Words.{plan_exactly}
use Rattle.rules.proofs.WritePromise.{makes, write_promise}
use Rattle.rules.proofs.Writes.{own_sheet}
use Rattle.starts.specs.Stands.{Stands}
use Rattle.starts.proofs.Keeps.{start_keeps}
use Rattle.erases.specs.Erases.{clusters_in, spare_share}
use Rattle.erases.proofs.Copied.{copied_few}
use Rattle.erases.proofs.Rows.{Turn}
use Rattle.erases.proofs.Shares.{share_left}

unfoldable pub room : Params → View → ℕ
room p vw = sum_below p.gamma (λ v. frames p - filled p (vw.body v))

-- no frame of a virtual block without a physical one is programmed
filled_none : (p : Params) → filled p [] ≡ 0
unfolding filled frame
filled_none p = count_is (frames p) 0 _ (omega arith) (λ f h. absurd (omega arith)) (λ f h k. erased_not p (frame p [] f) (all_are_part 255 (frame_bytes p) f [] (unfold all_are in refl)))

bare_none : (p : Params) (blk : List ℕ) → ltb 0 (length blk) ≡ false → filled p blk ≡ 0
bare_none p [] h = filled_none p
bare_none p (x ∷ blk) h = absurd (omega (arith, ltb-false 0 (length (x ∷ blk)) h))

-- ---- what a plan finds

-- that its block has as many programmed frames as the number of the frame that it writes; or, to reclaim, that every block is full, and few frames to copy
abbrev Found : Params → ℕ → View → Plan → Type 0
Found p r vw pl =
    ((plan_erases pl ≡ 0) × (filled p (vw.body (plan_vblock pl)) ≡ plan_frame p vw pl))
    ⊎ ((plan_erases pl ≡ 1) × ((u : ℕ) → u < p.gamma → filled p (vw.body u) ≡ frames p) × (p.gamma * plan_frame p vw pl ≤ clusters_in p r))

found : (p : Params) → Sizes p → (r : ℕ) (vw : View) → Neat p r vw → PlanListed p vw (plan_of p vw) → Found p r vw (plan_of p vw)
unfolding plan_of plan_erases plan_vblock plan_frame assigned
found p z r vw neat = go (so (has_room p vw)) (so (eqb (lowest_unassigned p vw) none))
  where
    go : (has_room p vw ≡ true) ⊎ (has_room p vw ≡ false) → (eqb (lowest_unassigned p vw) none ≡ true) ⊎ (eqb (lowest_unassigned p vw) none ≡ false)
        → PlanListed p vw (plan_of p vw) → Found p r vw (plan_of p vw)
    go (inl h) s l = rw h (inl (refl, refl))
    go (inr h) (inl e) l =
        let w : ReclaimsListed p vw (victim p vw) = rw (h, e) at l in
        rw (h, e) (inr (refl, λ u k. all_full p z r vw neat h u k (w.every u k), copied_few p z r vw neat h w.every (length (valid_frames p vw (victim p vw))) w.fewest))
    go (inr h) (inr e) l =
        let w : OpensListed p vw (lowest_unassigned p vw) = rw (h, e) at l in
        rw (h, e) (inl (refl, bare_none p (vw.body (lowest_unassigned p vw)) w.bare))

-- ---- an accepted write

module _ (p : Params) (b : Board) (q : Request) (e : reply_of p b (write q) ≡ Accepted) where
  abbrev r : ℕ
  r = request_region p q

  abbrev before : View
  before = view p b r

  abbrev after : View
  after = view p (written p b q) r

  -- the plan, its virtual block and the frame that it writes
  abbrev plan : Plan
  plan = plan_of p before

  abbrev v : ℕ
  v = plan_vblock plan

  abbrev f : ℕ
  f = plan_frame p before plan

  acc : Admitted p b q
  acc = admitted p b q (write_checks p b q e)

  region : r < p.mu
  region = mod-lt (request_cluster p q) acc.sized.regions

  neat_r : Neat p r before
  neat_r = neat p r before (acc.tidy r region)

  listed : PlanListed p before plan
  listed = let c = write_checks p b q e in plan_exactly p b (record { fine = c.fine; lengths = c.lengths; tidy = c.tidy }) r region

  made : Makes p b r plan
  made = makes p acc.sized b acc.tables r region neat_r (write_free p b q e)

  low : f < frames p
  low = made.base.ready.low

  abbrev x : List ℕ
  x = new_frame p before q (next_stamp b r) v

  sheet : Sheet p v (request_cluster p q) x
  sheet = own_sheet p b q acc (next_stamp b r) v (stamp_left p b q e)

  is_put : after ≡ with_frame p (with_room p before plan) v f (request_cluster p q) x
  unfolding view_after
  is_put = (write_promise p b q e).own

  -- the frames up to the new one are programmed in its block, and every other block is as it was
  here : filled p (after.body v) ≡ suc f
  here = rw is_put (filled_new p acc.sized r (with_room p before plan) v f (request_cluster p q) x made.base sheet acc.asked.cluster refl)

  elsewhere : (u : ℕ) → (u ≡ v → ⊥) → after.body u ≡ before.body u
  elsewhere u ne =
      rw is_put
      (body_old p acc.sized (with_room p before plan) v f (request_cluster p q) x made.base.ready sheet u ne ∙ made.room.body_else u ne)

  -- so the room changes by what its block's does
  one_block : room p after + (frames p - filled p (before.body v)) ≡ room p before + (frames p - filled p (after.body v))
  unfolding room
  one_block =
      sum_but p.gamma (λ u. frames p - filled p (before.body u)) (λ u. frames p - filled p (after.body u)) v made.base.ready.mine
      (λ u h ne. ap (λ (l : List ℕ). frames p - filled p l) (sym (elsewhere u ne)))

  none_left : ((u : ℕ) → u < p.gamma → filled p (before.body u) ≡ frames p) → room p before ≡ 0
  unfolding room
  none_left full = sum_zero p.gamma (λ u. frames p - filled p (before.body u)) (λ u h. omega (arith, full u h))

  pub write_turn : Turn (spare_share p r) (room p before) (plan_erases plan) (room p after)
  write_turn = go (found p acc.sized r before neat_r listed)
    where
      go : Found p r before plan → Turn (spare_share p r) (room p before) (plan_erases plan) (room p after)
      go (inl w) = inl (w.0, omega (arith, one_block, here, w.1, low))
      go (inr w) =
          let share = share_left p acc.sized r f (omega (arith, low)) w.2 in
          inr (w.0, none_left w.1, omega (arith, one_block, here, none_left w.1, w.1 v made.base.ready.mine, low, share))

-- ---- an accepted format, and a release

-- a format leaves no frame of a region programmed
pub format_room : (p : Params) (b : Board) (r : ℕ) → reply_of p b format ≡ Accepted → room p (view p b r) ≤ room p (view p (formatted p b) r)
unfolding room assigned
format_room p b r e =
    sum_le p.gamma (λ v. frames p - filled p ((view p b r).body v)) (λ v. frames p - filled p ((view p (formatted p b) r).body v))
    (λ v h. omega (arith, bare_none p ((view p (formatted p b) r).body v) (lacks p b e r v)))

-- a release changes no block
pub release_room : (p : Params) (b : Board) (c r : ℕ) → room p (view p (released p b c) r) ≡ room p (view p b r)
unfolding room without
release_room p b c r = rw (released_view p b c r)

-- a start on a board that stands finds every block as it is
pub start_room : (p : Params) (b : Board) (r : ℕ) → r < p.mu → Stands p b → room p (view p (started p b) r) ≡ room p (view p b r)
unfolding room
start_room p b r low st = sum_same p.gamma _ _ (λ v h. ap (λ (blk : List ℕ). frames p - filled p blk) ((start_keeps p b st).bodies r low v))
