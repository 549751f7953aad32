-- A reclaim cut among its copies: the chip shows the board as it was. The free block holds the first copies, the last of them perhaps begun: it is sound, names the victim's virtual block, and is
-- not full; the victim stands, and is.
-- Assumes nothing.
use mathlib.Core.Path.{◌≡◌, sym, ap, ◌∙◌}
use mathlib.Core.Logic.{inr}
use Prim.Native.Nat.{ℕ, ◌+◌, ◌*◌, ◌≤◌, ◌<◌}
use native.Mathlib.Omega.{arith}
use mathlib.Core.Bool.{true, false}
use mathlib.Core.List.{List, []}
use borrow.Author.Tests.{eq-eqb, lt-ltb}
use lib.ListN.{get_or, length, take}
use Rattle.lists.proofs.Tests.{and_intro}
use Rattle.rules.specs.declared.Params.{Params}
use Rattle.rules.specs.Parameters.{block_bytes, frames}
use Rattle.rules.specs.Tables.{Board, bst_at, bt_at, none}
use Rattle.rules.specs.Pages.{block, frame, held, holds, is_full}
use Rattle.rules.specs.Regions.{assigned, valid_frames, view}
use Rattle.rules.specs.Orderly.{block_rule}
use Rattle.rules.specs.Start.{region_named, sound, vblock_named}
use Rattle.rules.specs.Traces.{frames_ops, replay_chip}
use Rattle.rules.specs.Write.{copies, free_block, has_room, reclaims}
use Rattle.rules.proofs.BadBytes.{bytes_bad}
use Rattle.rules.proofs.FramePut.{Sheet}
use Rattle.rules.proofs.Opens.{all_full, free_fresh}
use Rattle.rules.proofs.ReclaimView.{copies_length, copy_at, nth_spec, nth_valid}
use Rattle.rules.proofs.Reclaims.{free_fits, good_copy, taken, whole}
use Rattle.rules.proofs.RegionFacts.{GoodFrame, Neat}
use Rattle.rules.proofs.Replays.{Ran, Wholes, block_size}
use Rattle.rules.proofs.Sizes.{Sizes, sizes}
use Rattle.rules.proofs.TableFacts.{Tables}
use Rattle.rules.proofs.ValidFrames.{valid_holds}
use Rattle.rules.proofs.Victims.{Valid}
use Rattle.rules.proofs.Views.{HasFree, body_size, body_some}
use Rattle.starts.specs.Stands.{Stands}
use Rattle.starts.proofs.PartCopies.{cut_ran, good_sheet, part_holds, part_open, part_rule, part_block}
use Rattle.starts.proofs.Shows.{LeftOver, Shows}
use Rattle.starts.proofs.Steady.{Shown, stands_neat, stands_steady, stands_tables, steady_rule}
use Rattle.starts.proofs.UsedGood.{names_region, names_vblock, used_in_use}

-- i copies are whole, and k pages, one at least, of the next
module _ (p : Params) (b : Board) (st : Stands p b) (r : ℕ) (region : r < p.mu) (no_room_lem : has_room p (view p b r) ≡ false) (every : (u : ℕ) → u < p.gamma → assigned (view p b r) u ≡ true)
    (v : ℕ) (low : v < p.gamma) (few : length (valid_frames p (view p b r) v) < frames p) (w : HasFree p b)
    (i k : ℕ) (copies-left : i < length (copies p (view p b r) (reclaims v))) (some : 0 < k) (most : k ≤ p.alpha) where
  z : Sizes p
  z = sizes p st.fine

  t : Tables p b
  t = stands_tables p b st

  neat : Neat p r (view p b r)
  neat = stands_neat p b st r region

  sized : (u : ℕ) → u < p.gamma → length ((view p b r).body u) ≡ block_bytes p
  sized u h = body_size p z b t r u region h (every u h)

  copy_length : length (copies p (view p b r) (reclaims v)) ≡ length (valid_frames p (view p b r) v)
  copy_length = copies_length p z r (view p b r) neat no_room_lem every sized v low few

  copy_sizes : Wholes p (copies p (view p b r) (reclaims v))
  copy_sizes = whole p z b t r region neat no_room_lem every v low few w

  copy_good : (j : ℕ) → j < length (copies p (view p b r) (reclaims v)) → GoodFrame p r v (get_or (copies p (view p b r) (reclaims v)) j [])
  copy_good = good_copy p z b t r region neat no_room_lem every v low few w

  -- a copy is a valid frame of the victim
  copy_is : (j : ℕ) → j < length (copies p (view p b r) (reclaims v))
      → (f : ℕ) × (f < frames p) × Valid p (view p b r) v f × (get_or (copies p (view p b r) (reclaims v)) j [] ≡ frame p ((view p b r).body v) f)
  copy_is j h =
      let m : j < length (valid_frames p (view p b r) v) = rw copy_length at h in
      let w = nth_spec p z r (view p b r) neat no_room_lem every sized v low few j m in
      (nth_valid p (view p b r) v j, w.0, w.1, copy_at p z r (view p b r) neat no_room_lem every sized v low few j m)

  copy_sheet : (j : ℕ) → j < length (copies p (view p b r) (reclaims v)) → Sheet p v (held p (get_or (copies p (view p b r) (reclaims v)) j [])) (get_or (copies p (view p b r) (reclaims v)) j [])
  copy_sheet j h =
      let w = copy_is j h in
      let e : holds p (get_or (copies p (view p b r) (reclaims v)) j []) (held p (frame p ((view p b r).body v) w.0)) ≡ true = rw w.3 (valid_holds p z (view p b r) v w.0 w.1 w.2) in
      good_sheet p z r v (get_or (copies p (view p b r) (reclaims v)) j []) (copy_good j h) (held p (frame p ((view p b r).body v) w.0)) (copy_sizes j h) e

  fit : length (copies p (view p b r) (reclaims v)) < frames p
  fit = rw copy_length few

  -- ---- the chip

  abbrev to : ℕ
  to = free_block p b.bst b.wear

  abbrev cut : List ℕ
  cut = replay_chip p b.chip (take (i * p.alpha + k) (frames_ops p to 0 (copies p (view p b r) (reclaims v))))

  abbrev held_part : List ℕ
  held_part = part_block p z r v (copies p (view p b r) (reclaims v)) copy_sizes fit copy_good copy_sheet i k copies-left most

  to_fits : to * block_bytes p + block_bytes p ≤ length b.chip
  to_fits = free_fits p z b t r region neat no_room_lem every v low few w

  ran_cut : Ran p b.chip cut to held_part
  ran_cut = cut_ran p z r v (copies p (view p b r) (reclaims v)) copy_sizes fit copy_good copy_sheet i k copies-left most b.chip to to_fits (free_fresh p z b t w)

  -- ---- the block that is left over

  left_rule : block_rule p r v (block p cut to) ≡ true
  left_rule = rw ran_cut.here (part_rule p z r v (copies p (view p b r) (reclaims v)) copy_sizes fit copy_good copy_sheet i k copies-left most some)

  left_region : region_named p (block p cut to) ≡ r
  left_region = names_region p z r v (block p cut to) left_rule

  left_vblock : vblock_named p (block p cut to) ≡ v
  left_vblock = names_vblock p z r v (block p cut to) left_rule

  left_sound : sound p (block p cut to) ≡ true
  unfolding sound
  left_sound = rw (left_region, left_vblock) (and_intro (lt-ltb v p.gamma low) left_rule)

  has : bt_at p b.bt r v ≡ none → ⊥
  has = taken p z b t r region neat no_room_lem every v low few w

  -- the victim is full
  victim_full : is_full p (block p b.chip (bt_at p b.bt r v)) ≡ true
  unfolding is_full
  victim_full = rw (← body_some p z b t r v region low has) (eq-eqb _ _ (all_full p z r (view p b r) neat no_room_lem v low (every v low)))

  left_over_lem : LeftOver p cut b to
  left_over_lem =
      record {
        used = used_in_use p z r v cut to (block_size p cut to (rw ran_cut.size to_fits)) left_rule;
        sound = left_sound;
        unfull = rw ran_cut.here (part_open p z r v (copies p (view p b r) (reclaims v)) copy_sizes fit copy_good copy_sheet i k copies-left most some);
        has = rw (left_region, left_vblock) has;
        full = rw (left_region, left_vblock) victim_full;
      }

  shows : Shows p cut b to
  shows =
      record {
        size = ran_cut.size ∙ t.chip_length;
        else = λ m h ne. ran_cut.else m ne;
        free = w.1;
        here = λ h. inr left_over_lem;
        marked = λ m h e. bytes_bad p b.chip cut m (ran_cut.else m (λ x. omega (arith, e, ap (bst_at b.bst) x, w.1))) ∙ st.marked m h e;
        rule = steady_rule p z b (stands_steady p b st);
      }

  -- what is copied so far is frames of the victim
  copied : (f c : ℕ) → f < frames p → holds p (frame p (block p cut to) f) c ≡ true
      → (g : ℕ) × (g < frames p) × (frame p (block p cut to) f ≡ frame p ((view p b (region_named p (block p cut to))).body (vblock_named p (block p cut to))) g)
  copied f c h e =
      let s : frame p (block p cut to) f ≡ frame p held_part f = ap (λ (y : List ℕ). frame p y f) ran_cut.here in
      let w = part_holds p z r v (copies p (view p b r) (reclaims v)) copy_sizes fit copy_good copy_sheet i k copies-left most some f c h (sym (ap (λ (y : List ℕ). holds p y c) s) ∙ e) in
      let o = copy_is w.0 w.1 in
      (o.0, o.1, rw (left_region, left_vblock) (s ∙ w.2 ∙ o.3))

  -- so a start finds the board as it was before the write
  pub cut_copies : Shown p cut b to
  cut_copies = record { shows = shows; copied = λ h l. copied }
