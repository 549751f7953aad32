-- A write cut while its frame is only begun: room is made, and the begun frame holds nothing, so the chip shows a board that reads as before.
-- Assumes nothing.
use mathlib.Core.Path.{◌≡◌}
use Prim.Native.Nat.{ℕ, suc, ◌+◌, ◌*◌, ◌≤◌, ◌<◌}
use native.Mathlib.Omega.{arith}
use native.Mathlib.Decide.{ℕ_discrete}
use mathlib.Core.Bool.{true}
use mathlib.Core.List.{List}
use lib.ListN.{length}
use Rattle.lists.specs.Parts.{all_are, put_part}
use Rattle.lists.proofs.Parts.{next, part_length, put_other, put_same}
use Rattle.rules.specs.declared.Params.{Params}
use Rattle.rules.specs.Parameters.{block_bytes, frame_bytes, frames}
use Rattle.rules.specs.Numbers.{region_of}
use Rattle.rules.specs.Tables.{Board}
use Rattle.rules.specs.Pages.{frame}
use Rattle.rules.specs.Regions.{view}
use Rattle.rules.specs.Requests.{Request, request_cluster}
use Rattle.rules.specs.Traces.{frame_ops, replay_chip}
use Rattle.rules.specs.Write.{
  Plan,
  new_frame,
  next_stamp,
  plan_block,
  plan_bst,
  plan_frame,
  plan_vblock,
  room_ops,
}
use Rattle.rules.specs.Machine.{with_room}
use Rattle.rules.proofs.Admitted.{Admitted}
use Rattle.rules.proofs.Continues.{Makes}
use Rattle.rules.proofs.FramePut.{Sheet}
use Rattle.rules.proofs.Frames.{erased_holds}
use Rattle.rules.proofs.PlanCases.{Case}
use Rattle.rules.proofs.RegionFacts.{GoodFrame, UpTo}
use Rattle.rules.proofs.Replays.{Ran, one_fits}
use Rattle.rules.proofs.Sizes.{Sizes, sizes}
use Rattle.rules.proofs.TableFacts.{Tables}
use Rattle.rules.proofs.WritePromise.{makes}
use Rattle.rules.proofs.Writes.{sheet}
use Rattle.starts.specs.Stands.{Stands}
use Rattle.starts.proofs.Alike.{Alike, equal, neither}
use Rattle.starts.proofs.Begun.{begun_good, begun_none, begun_ran, begun_size, begun_frame}
use Rattle.starts.proofs.Settled.{mid_old, mid_shown, mid_steady, mid_board}
use Rattle.starts.proofs.Steady.{ReadsOld, reads_old, stands_tables}

module _ (p : Params) (b : Board) (st : Stands p b) (q : Request) where
  z : Sizes p
  z = sizes p st.fine

  t : Tables p b
  t = stands_tables p b st

  module _ (acc : Admitted p b q) (r : ℕ) (is : region_of p (request_cluster p q) ≡ r) (region : r < p.mu) (pl : Plan) (case : Case p (view p b r) pl) (makes : Makes p b r pl)
      (left : next_stamp b r < 4294967296)
      (m : ℕ) (some : 0 < m) (part : m < p.alpha) where
    abbrev room_chip : List ℕ
    room_chip = replay_chip p b.chip (room_ops p b r pl)

    abbrev body : List ℕ
    body = (with_room p (view p b r) pl).body (plan_vblock pl)

    abbrev new : List ℕ
    new = new_frame p (view p b r) q (next_stamp b r) (plan_vblock pl)

    abbrev at : ℕ
    at = plan_frame p (view p b r) pl

    abbrev begun : List ℕ
    begun = begun_frame p new (frame p body at) m

    the_sheet : Sheet p (plan_vblock pl) (request_cluster p q) new
    the_sheet = sheet p b q acc r is pl makes left

    fits : plan_block p b r pl * block_bytes p + block_bytes p ≤ length room_chip
    fits = rw makes.room.chip_length (next (block_bytes p) (plan_block p b r pl) p.N makes.room.low)

    body_fits : at * frame_bytes p + frame_bytes p ≤ length body
    body_fits = one_fits p body at makes.base.ready.size makes.base.ready.low

    old_size : length (frame p body at) ≡ frame_bytes p
    unfolding frame
    old_size = part_length (frame_bytes p) at body body_fits

    old_blank : all_are 255 (frame p body at) ≡ true
    old_blank = makes.base.ready.rest at (omega arith) makes.base.ready.low

    now_size : length begun ≡ frame_bytes p
    now_size = begun_size p new (frame p body at) m (omega arith) the_sheet.whole old_size

    frame_here : frame p (put_part (frame_bytes p) at begun body) at ≡ begun
    unfolding frame
    frame_here = put_same (frame_bytes p) at begun body body_fits now_size

    frame_else : (g : ℕ) → (g ≡ at → ⊥) → frame p (put_part (frame_bytes p) at begun body) g ≡ frame p body g
    unfolding frame
    frame_else g ne = put_other (frame_bytes p) at begun body body_fits now_size g ne

    ran : Ran p room_chip (replay_chip p room_chip (frame_ops p (plan_block p b r pl) at new m)) (plan_block p b r pl) (put_part (frame_bytes p) at begun body)
    ran = rw makes.room.here at (begun_ran p room_chip new (plan_block p b r pl) at m fits the_sheet.whole makes.base.ready.low (omega arith))

    upto : UpTo p r (plan_vblock pl) (suc at) (put_part (frame_bytes p) at begun body)
    upto = record { front = λ g a h. front g a h (ℕ_discrete g at); rest = λ g a h. rw (frame_else g (λ e. omega (arith, a, e))) (makes.base.ready.rest g (omega arith) h) }
      where
        front : (g : ℕ) → g < suc at → g < frames p → Dec (g ≡ at) → GoodFrame p r (plan_vblock pl) (frame p (put_part (frame_bytes p) at begun body) g)
        front g a h (yes e) =
            rw (e, frame_here)
            (begun_good p z (plan_vblock pl) (request_cluster p q) new (frame p body at) m the_sheet old_size old_blank some (omega arith) r acc.asked.cluster is)
        front g a h (no e) = rw (frame_else g e) (makes.base.front.front g (omega arith) h)

    like : (g : ℕ) → g < frames p → Alike p (frame p body g) (frame p (put_part (frame_bytes p) at begun body) g)
    like g h = go (ℕ_discrete g at)
      where
        go : Dec (g ≡ at) → Alike p (frame p body g) (frame p (put_part (frame_bytes p) at begun body) g)
        go (yes e) =
            rw (e, frame_here) (neither (λ c. erased_holds p (frame p body at) c old_blank)
            (λ c. begun_none p z (plan_vblock pl) (request_cluster p q) new (frame p body at) m the_sheet old_size old_blank some (omega arith) part c))
        go (no e) = equal (frame_else g e)

    pub begun_form : ReadsOld p b (replay_chip p room_chip (frame_ops p (plan_block p b r pl) at new m))
    begun_form =
        let chip : List ℕ = replay_chip p room_chip (frame_ops p (plan_block p b r pl) at new m) in
        let blk : List ℕ = put_part (frame_bytes p) at begun body in
        reads_old (mid_board p b r pl (plan_bst p b r pl) chip) p.N (mid_steady p z b st r region pl case _ _ _ makes chip blk (suc at) ran (omega arith) makes.base.ready.low upto like)
        (mid_shown p z b st r region pl case _ _ _ makes chip blk (suc at) ran (omega arith) makes.base.ready.low upto like)
        (mid_old p z b st r region pl case _ _ _ makes chip blk (suc at) ran (omega arith) makes.base.ready.low upto like)
