-- A plan that reclaims makes room.
-- Assumes nothing.
use mathlib.Core.Path.{◌≡◌, refl, sym, ap, ◌∙◌}
use Prim.Native.Nat.{ℕ, ◌+◌, ◌*◌, ◌≤◌, ◌<◌}
use native.Mathlib.Omega.{arith}
use mathlib.Core.Bool.{Bool, true, false, cond}
use mathlib.Core.List.{List, [], ◌∷◌, ◌++◌}
use lib.ListN.{length, get_or, set, length-set}
use lib.Seq.{get_or-set_same, get_or-set_other}
use Rattle.lists.proofs.Parts.{next}
use Rattle.rules.specs.declared.Params.{Params}
use Rattle.rules.specs.Parameters.{block_bytes, frame_bytes, frames}
use Rattle.rules.specs.Numbers.{region_of}
use Rattle.rules.specs.Tables.{Board, bst_at, bt_at, bt_entry, ct_at, none}
use Rattle.rules.specs.Pages.{block, held}
use Rattle.rules.specs.Regions.{assigned, valid_frames, view}
use Rattle.rules.specs.Traces.{Op, clean, erase, erase_ops, erased_state, frames_ops, mark, replay_chip, worn}
use Rattle.rules.specs.Write.{copies, victim_ops, free_block, has_room, plan_block, plan_bst, plan_frame, plan_vblock, reclaims, room_ops}
use Rattle.rules.specs.Machine.{follow, put_frames, with_room}
use Rattle.rules.proofs.Chip.{clean_append, replay_append}
use Rattle.rules.proofs.Continues.{Makes, MakesOn, segs_in, segs_out}
use Rattle.rules.proofs.Following.{follow_ct_lem, follow_length, follow_miss}
use Rattle.rules.proofs.Sizes.{Sizes}
use Rattle.rules.proofs.Isolation.{index_low}
use Rattle.rules.proofs.Opens.{free_fresh, fresh_frame}
use Rattle.rules.proofs.ReclaimView.{body_else_lem, body_here_lem, copies_fit, copies_length, copy_at, nth_spec, nth_valid, reclaim_base, reclaim_reads, reclaim_stood, seg_is, wholes}
use Rattle.rules.proofs.RegionFacts.{GoodFrame, Neat}
use Rattle.rules.proofs.Replays.{Ran, frames_clean, frames_ran}
use Rattle.rules.proofs.WornBlocks.{left_ran, left_block, wear_out_clean}
use Rattle.rules.proofs.TableFacts.{Tables}
use Rattle.rules.proofs.Victims.{good_at}
use Rattle.rules.proofs.Views.{HasFree, block_low_lem, body_size, chip_fits, free_unnamed, has_block}

module _ (p : Params) (z : Sizes p) (b : Board) (t₀ : Tables p b) (r : ℕ) (region : r < p.mu) (neat : Neat p r (view p b r)) (no_room_lem : has_room p (view p b r) ≡ false)
    (every : (u : ℕ) → u < p.gamma → assigned (view p b r) u ≡ true) (v : ℕ) (low : v < p.gamma) (few : length (valid_frames p (view p b r) v) < frames p) (w : HasFree p b) where
  sized : (u : ℕ) → u < p.gamma → length ((view p b r).body u) ≡ block_bytes p
  sized u h = body_size p z b t₀ r u region h (every u h)

  pub taken : bt_at p b.bt r v ≡ none → ⊥
  taken = has_block p z b t₀ r v region low (every v low)

  index : r * p.gamma + v < p.mu * p.gamma
  index = index_low p r v region low

  old_used : bst_at b.bst (bt_at p b.bt r v) ≡ 1
  old_used = t₀.used_back (r * p.gamma + v) index (bt_at p b.bt r v) (block_low_lem p z b t₀ r v region low taken) (unfold bt_at bt_entry in refl)

  differ : bt_at p b.bt r v ≡ free_block p b.bst b.wear → ⊥
  differ e = omega (arith, old_used, w.1, ap (bst_at b.bst) e)

  pub free_fits : free_block p b.bst b.wear * block_bytes p + block_bytes p ≤ length b.chip
  free_fits = rw t₀.chip_length (next (block_bytes p) (free_block p b.bst b.wear) p.N w.0)

  pub whole : (i : ℕ) → i < length (copies p (view p b r) (reclaims v)) → length (get_or (copies p (view p b r) (reclaims v)) i []) ≡ frame_bytes p
  whole = wholes p z r (view p b r) neat no_room_lem every sized v low few

  fit : 0 + length (copies p (view p b r) (reclaims v)) ≤ frames p
  fit = copies_fit p z r (view p b r) neat no_room_lem every sized v low few

  copied : Ran p b.chip (replay_chip p b.chip (frames_ops p (free_block p b.bst b.wear) 0 (copies p (view p b r) (reclaims v)))) (free_block p b.bst b.wear)
      (put_frames p 0 (copies p (view p b r) (reclaims v)) (block p b.chip (free_block p b.bst b.wear)))
  copied = frames_ran p (free_block p b.bst b.wear) (copies p (view p b r) (reclaims v)) 0 b.chip free_fits whole fit

  old_fits : bt_at p b.bt r v * block_bytes p + block_bytes p ≤ length (replay_chip p b.chip (frames_ops p (free_block p b.bst b.wear) 0 (copies p (view p b r) (reclaims v))))
  old_fits = rw copied.size (chip_fits p z b t₀ r v region low taken)

  -- what is made of the victim, worn out or not
  abbrev pub victim_gone : Bool → List Op
  victim_gone t = erase (bt_at p b.bt r v) ∷ cond t (mark (bt_at p b.bt r v) ∷ []) []

  -- the chip once the victim is erased, and BST
  abbrev pub gone_chip : Bool → List ℕ
  gone_chip t = replay_chip p b.chip (frames_ops p (free_block p b.bst b.wear) 0 (copies p (view p b r) (reclaims v)) ++ victim_gone t)

  abbrev pub gone_bst : Bool → List ℕ
  gone_bst t = set (set b.bst (free_block p b.bst b.wear) 1) (bt_at p b.bt r v) (cond t 2 0)

  chip_is_lem : (t : Bool) → gone_chip t ≡ replay_chip p
      (replay_chip p b.chip (frames_ops p (free_block p b.bst b.wear) 0 (copies p (view p b r) (reclaims v)))) (victim_gone t)
  chip_is_lem t = replay_append p b.chip (frames_ops p (free_block p b.bst b.wear) 0 (copies p (view p b r) (reclaims v))) (victim_gone t)

  erased : (t : Bool) → Ran p (replay_chip p b.chip (frames_ops p (free_block p b.bst b.wear) 0 (copies p (view p b r) (reclaims v))))
      (gone_chip t) (bt_at p b.bt r v) (left_block p t)
  erased t = rw (chip_is_lem t) (left_ran p z _ (bt_at p b.bt r v) old_fits t)

  block_new : (t : Bool) → block p (gone_chip t) (free_block p b.bst b.wear) ≡ (with_room p (view p b r) (reclaims v)).body v
  block_new t =
      (erased t).else (free_block p b.bst b.wear) (λ e. differ (sym e)) ∙ copied.here ∙ ap (put_frames p 0 (copies p (view p b r) (reclaims v))) (free_fresh p z b t₀ w)
      ∙ sym (body_here_lem p z r (view p b r) neat no_room_lem every sized v low few)

  block_same : (t : Bool) (m : ℕ) → (m ≡ free_block p b.bst b.wear → ⊥) → (m ≡ bt_at p b.bt r v → ⊥) → block p (gone_chip t) m ≡ block p b.chip m
  block_same t m ne k = (erased t).else m k ∙ copied.else m ne

  not_old : (i : ℕ) → i < p.mu * p.gamma → (i ≡ r * p.gamma + v → ⊥) → (bt_entry b.bt i ≡ none → ⊥) → bt_entry b.bt i ≡ bt_at p b.bt r v → ⊥
  unfolding bt_at bt_entry
  not_old i h ne k e = ne (t₀.once i (r * p.gamma + v) h index e k)

  -- the copied frames' clusters
  pub good_copy : (i : ℕ) → i < length (copies p (view p b r) (reclaims v)) → GoodFrame p r v (get_or (copies p (view p b r) (reclaims v)) i [])
  good_copy i h =
      let k : i < length (valid_frames p (view p b r) v) = rw (copies_length p z r (view p b r) neat no_room_lem every sized v low few) at h in
      rw (copy_at p z r (view p b r) neat no_room_lem every sized v low few i k)
      (good_at p z (view p b r) r neat no_room_lem every v (nth_valid p (view p b r) v i) low (nth_spec p z r (view p b r) neat no_room_lem every sized v low few i k).0)

  held_low : (i : ℕ) → i < length (copies p (view p b r) (reclaims v)) → held p (get_or (copies p (view p b r) (reclaims v)) i []) < length b.ct
  held_low i h = rw t₀.ct_length (good_copy i h).low

  missed : (c : ℕ) → (region_of p c ≡ r → ⊥) → (s : ℕ → ℕ) → follow p v 0 (copies p (view p b r) (reclaims v)) s c ≡ s c
  missed c ne s = follow_miss p v c (copies p (view p b r) (reclaims v)) 0 s (λ i h e. ne (ap (region_of p) (sym e) ∙ (good_copy i h).mine))

  tidy : clean p b.chip (room_ops p b r (reclaims v)) ≡ true
  unfolding room_ops victim_ops plan_block
  tidy =
      clean_append p b.chip (frames_ops p (free_block p b.bst b.wear) 0 (copies p (view p b r) (reclaims v))) (erase_ops p b.wear (bt_at p b.bt r v))
      (frames_clean p (free_block p b.bst b.wear) (copies p (view p b r) (reclaims v)) 0 b.chip free_fits whole fit (λ g a h. rw (free_fresh p z b t₀ w) (fresh_frame p g)))
      (wear_out_clean p z _ (bt_at p b.bt r v) old_fits b.wear)

  pub gone_makes : (t : Bool) → MakesOn p b r (reclaims v) (gone_chip t) (gone_bst t) t
  unfolding plan_vblock plan_block plan_frame
  gone_makes t =
      record {
        room =
            record {
              chip_length = (erased t).size ∙ copied.size ∙ t₀.chip_length;
              low = w.0;
              taken = λ e. omega (arith, w.0, z.blocks);
              own = λ i h ne k. free_unnamed p z b t₀ w i h;
              here = block_new t;
              block_else = λ i h ne k. block_same t (bt_entry b.bt i) (free_unnamed p z b t₀ w i h) (not_old i h ne k);
              body_else = body_else_lem p z r (view p b r) neat no_room_lem every sized v low few;
              ct_length = follow_length p v (copies p (view p b r) (reclaims v)) 0 b.ct ∙ t₀.ct_length;
              segs_here = λ c e. follow_ct_lem p v c (copies p (view p b r) (reclaims v)) 0 b.ct (view p b r).seg_of held_low (unfold ct_at in segs_in p b r c e)
                  ∙ sym (seg_is p z r (view p b r) neat no_room_lem every sized v low few c);
              segs_else = λ c ne. follow_ct_lem p v c (copies p (view p b r) (reclaims v)) 0 b.ct (ct_at b.ct) held_low (unfold ct_at in refl) ∙ missed c ne (ct_at b.ct);
              segs_none = λ c ne. seg_is p z r (view p b r) neat no_room_lem every sized v low few c ∙ missed c ne (view p b r).seg_of ∙ segs_out p b r c ne;
            };
        base = reclaim_base p z r (view p b r) neat no_room_lem every sized v low few;
        tidy = tidy;
        reads = reclaim_reads p z r (view p b r) neat no_room_lem every sized v low few;
        stood = reclaim_stood p z r (view p b r) neat no_room_lem every sized v low few;
        found = λ e. w;
        bst_length = length-set (set b.bst (free_block p b.bst b.wear) 1) (bt_at p b.bt r v) _ ∙ length-set b.bst (free_block p b.bst b.wear) 1 ∙ t₀.bst_length;
        was = λ e. omega (arith, w.1);
        kind_here = get_or-set_other (set b.bst (free_block p b.bst b.wear) 1) (bt_at p b.bt r v) (free_block p b.bst b.wear) (cond t 2 0) 0 (λ e. differ (sym e)) ∙
            get_or-set_same b.bst (free_block p b.bst b.wear) 1 0 (rw t₀.bst_length w.0);
        kind_old = λ ne k. get_or-set_same (set b.bst (free_block p b.bst b.wear) 1) (bt_at p b.bt r v) (cond t 2 0) 0
            (rw (length-set b.bst (free_block p b.bst b.wear) 1, t₀.bst_length) (block_low_lem p z b t₀ r v region low taken));
        block_old = λ ne k. (erased t).here;
        kind_else = λ m h ne k. unfold bst_at in (get_or-set_other (set b.bst (free_block p b.bst b.wear) 1) (bt_at p b.bt r v) m (cond t 2 0) 0 k ∙ get_or-set_other b.bst
            (free_block p b.bst b.wear) m 1 0 ne);
        block_else = λ m h ne k. block_same t m ne k;
      }

  pub reclaim_makes : Makes p b r (reclaims v)
  reclaim_makes = unfold room_ops victim_ops plan_block plan_bst erase_ops erased_state plan_vblock in gone_makes (worn p b.wear (bt_at p b.bt r v))
