-- A write cut after any of its operations: the chip shows a board that reads as before, or the write is whole. By the number of operations made against those that make room.
-- Assumes nothing.
use mathlib.Core.Path.{◌≡◌, refl, ap, ◌∙◌}
use Prim.Native.Nat.{ℕ, ◌+◌, ◌-◌, ◌≤◌, ◌<◌}
use native.Mathlib.Nat.{mod-lt}
use native.Mathlib.Omega.{arith}
use native.Mathlib.Decide.{dec_lt, ℕ_discrete}
use mathlib.Core.List.{List, ◌++◌, append-nil}
use lib.ListN.{length, length-append, take}
use lib.Seq.{take_all}
use Rattle.lists.proofs.Lists.{take_append}
use Rattle.rules.specs.declared.Params.{Params}
use Rattle.rules.specs.declared.Reply.TheVariants.{Accepted}
use Rattle.rules.specs.Numbers.{region_of}
use Rattle.rules.specs.Tables.{Board}
use Rattle.rules.specs.Regions.{view}
use Rattle.rules.specs.Requests.{Request, request_cluster, write}
use Rattle.rules.specs.Replies.{reply_of}
use Rattle.rules.specs.Traces.{Op, frame_ops, frames_ops, replay_chip}
use Rattle.rules.specs.Write.{
  Plan,
  copies,
  victim_ops,
  new_frame,
  next_stamp,
  plan_block,
  plan_frame,
  plan_of,
  plan_ops,
  plan_vblock,
  room_ops,
  takes_block,
  write_ops,
  written,
  written_by,
}
use Rattle.rules.proofs.Admitted.{Admitted, admitted, stamp_left, write_checks, write_free}
use Rattle.rules.proofs.Chip.{replay_append}
use Rattle.rules.proofs.Continues.{Makes}
use Rattle.rules.proofs.PlanCases.{Case, goes_on, plan_case, renews, takes}
use Rattle.rules.proofs.Sizes.{Sizes, sizes}
use Rattle.rules.proofs.TableFacts.{Tables}
use Rattle.rules.proofs.WritePromise.{makes}
use Rattle.starts.specs.Stands.{Stands}
use Rattle.starts.proofs.CutBegun.{begun_form}
use Rattle.starts.proofs.CutRooms.{room_form}
use Rattle.starts.proofs.Prefixes.{frame_length, take_frame}
use Rattle.starts.proofs.Steady.{ReadsOld, stands_neat, stands_tables, untouched}

-- what a cut of a write leaves
pub data CutForm (p : Params) (b : Board) (q : Request) (chip : List ℕ) : Type 0 where
  before : ReadsOld p b chip → CutForm p b q chip
  is_whole : chip ≡ (written p b q).chip → CutForm p b q chip

module _ (p : Params) (b : Board) (st : Stands p b) (q : Request) (ok : reply_of p b (write q) ≡ Accepted) where
  z : Sizes p
  z = sizes p st.fine

  t : Tables p b
  t = stands_tables p b st

  acc : Admitted p b q
  acc = admitted p b q (write_checks p b q ok)

  abbrev r₀ : ℕ
  r₀ = region_of p (request_cluster p q)

  region₀ : r₀ < p.mu
  region₀ = mod-lt (request_cluster p q) z.regions

  before_new : (pl : Plan) → Case p (view p b r₀) pl → Makes p b r₀ pl → (k : ℕ) → k ≤ length (room_ops p b r₀ pl) → ReadsOld p b (replay_chip p b.chip (take k (room_ops p b r₀ pl)))
  before_new pl (goes_on h e) mk k low =
      let n : k ≡ 0 = omega (arith, none_there, low) in
      rw n (unfold replay_chip in untouched p b st)
    where
      none_there : length (room_ops p b r₀ pl) ≡ 0
      none_there = rw e (unfold room_ops frames_ops victim_ops copies in refl)
  before_new pl (takes h v lv lacks e) mk k low =
      let n : k ≡ 0 = omega (arith, none_there, low) in
      rw n (unfold replay_chip in untouched p b st)
    where
      none_there : length (room_ops p b r₀ pl) ≡ 0
      none_there = rw e (unfold room_ops frames_ops victim_ops copies in refl)
  before_new pl (renews h every v lv few e) mk k low =
      rw e (room_form p b st r₀ region₀ h every v lv few (renews h every v lv few refl) (mk.found (rw e (unfold takes_block in refl))) k)

  plan_form : (pl : Plan) → pl ≡ plan_of p (view p b r₀) → Case p (view p b r₀) pl → Makes p b r₀ pl → (k : ℕ) → k ≤ length (plan_ops p b r₀ q pl)
      → CutForm p b q (replay_chip p b.chip (take k (plan_ops p b r₀ q pl)))
  unfolding plan_ops
  plan_form pl is case mk k low = go (dec_lt (length (room_ops p b r₀ pl)) k)
    where
      new : List Op
      new = frame_ops p (plan_block p b r₀ pl) (plan_frame p (view p b r₀) pl) (new_frame p (view p b r₀) q (next_stamp b r₀) (plan_vblock pl)) p.alpha

      len : length (room_ops p b r₀ pl ++ new) ≡ length (room_ops p b r₀ pl) + p.alpha
      len =
          length-append (room_ops p b r₀ pl) new
          ∙ ap (λ (m : ℕ). length (room_ops p b r₀ pl) + m) (frame_length p (plan_block p b r₀ pl) (plan_frame p (view p b r₀) pl) (new_frame p (view p b r₀) q (next_stamp b r₀) (plan_vblock pl)) p.alpha)

      go : Dec (length (room_ops p b r₀ pl) < k) → CutForm p b q (replay_chip p b.chip (take k (room_ops p b r₀ pl ++ new)))
      go (no d) =
          let o : k - length (room_ops p b r₀ pl) ≡ 0 = omega arith in
          rw (take_append k (room_ops p b r₀ pl) new, o, append-nil (take k (room_ops p b r₀ pl))) (before (before_new pl case mk k (omega arith)))
      go (yes d) = pick (ℕ_discrete (k - length (room_ops p b r₀ pl)) p.alpha)
        where
          all : take k (room_ops p b r₀ pl) ≡ room_ops p b r₀ pl
          all = take_all k (room_ops p b r₀ pl) (omega arith)

          pick : Dec (k - length (room_ops p b r₀ pl) ≡ p.alpha) → CutForm p b q (replay_chip p b.chip (take k (room_ops p b r₀ pl ++ new)))
          pick (yes e) =
              is_whole (rw (take_all k (room_ops p b r₀ pl ++ new) (omega (arith, len))) (unfold written written_by plan_ops in rw (← is)))
          pick (no e) =
              rw (
                take_append k (room_ops p b r₀ pl) new,
                all,
                take_frame p (plan_block p b r₀ pl) (plan_frame p (view p b r₀) pl) (new_frame p (view p b r₀) q (next_stamp b r₀) (plan_vblock pl)) p.alpha (k - length (room_ops p b r₀ pl)) (omega (arith, low, len)),
                replay_append p b.chip (room_ops p b r₀ pl),
              )
              (before (begun_form p b st q acc r₀ refl region₀ pl case mk (stamp_left p b q ok) (k - length (room_ops p b r₀ pl)) (omega arith) (omega (arith, low, len))))

  pub cut_form : (k : ℕ) → k ≤ length (write_ops p b q) → CutForm p b q (replay_chip p b.chip (take k (write_ops p b q)))
  unfolding write_ops
  cut_form k low = plan_form (plan_of p (view p b r₀)) refl (plan_case p z r₀ (view p b r₀) (stands_neat p b st r₀ region₀)) (makes p z b t r₀ region₀ (stands_neat p b st r₀ region₀) (write_free p b q ok)) k low
