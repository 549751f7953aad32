-- A reclaim cut before the new frame: among its copies the chip shows the board as it was; once the victim is erased, the board with room made, or, where nothing was copied, the one on which the
-- victim's virtual block has no block. Each reads as before.
-- Assumes nothing.
use mathlib.Core.Path.{◌≡◌, refl, sym, ap, ◌∙◌}
use mathlib.Core.Logic.{◌⊎◌, inl, inr}
use Prim.Native.Nat.{ℕ, zero, suc, ◌+◌, ◌-◌, ◌*◌, ◌/◌, ◌%◌, ◌≤◌, ◌<◌}
use native.Mathlib.Nat.{div-add-mod', div-lt_iff_lt-mul, mod-lt}
use native.Mathlib.Omega.{arith}
use native.Mathlib.Decide.{dec_lt, ℕ_discrete}
use mathlib.Core.Bool.{Bool, true, false, cond}
use mathlib.Core.List.{List, [], ◌∷◌, ◌++◌, append-nil}
use lib.ListN.{length, take}
use lib.Seq.{take_all}
use Rattle.lists.specs.Parts.{all_are}
use Rattle.lists.proofs.Joins.{all_are_part, updated_other, updated_same}
use Rattle.lists.proofs.Lists.{take_append}
use Rattle.lists.proofs.Tests.{never}
use Rattle.rules.specs.declared.Params.{Params}
use Rattle.rules.specs.Parameters.{block_bytes, frame_bytes, frames}
use Rattle.rules.specs.Tables.{Board, bst_at, bt_at, none}
use Rattle.rules.specs.Pages.{filled, frame}
use Rattle.rules.specs.Regions.{assigned, valid_frames, view}
use Rattle.rules.specs.Format.{bad}
use Rattle.rules.specs.Traces.{Op, erase, erase_ops, frames_ops, mark, replay_chip, worn}
use Rattle.rules.specs.Write.{copies, victim_ops, free_block, has_room, plan_block, plan_frame, plan_vblock, reclaims, room_ops}
use Rattle.rules.specs.Machine.{follow, with_room}
use Rattle.rules.proofs.Continues.{MakesOn}
use Rattle.rules.proofs.Frames.{erased_holds}
use Rattle.rules.proofs.Opens.{all_full}
use Rattle.rules.proofs.PlanCases.{Case}
use Rattle.rules.proofs.ReclaimView.{body_else_lem, copies_length, frame_rest, seg_is}
use Rattle.rules.proofs.Reclaims.{gone_makes, gone_bst, gone_chip, taken}
use Rattle.rules.proofs.RegionFacts.{Neat, UpTo}
use Rattle.rules.proofs.Replays.{Ran}
use Rattle.rules.proofs.Sizes.{Sizes, sizes}
use Rattle.rules.proofs.TableFacts.{Tables}
use Rattle.rules.proofs.Views.{HasFree, body_size, chip_fits}
use Rattle.rules.proofs.WornBlocks.{first_ops, left_ran, left_block}
use Rattle.rules.proofs.WritePromise.{makes}
use Rattle.starts.specs.Stands.{Stands}
use Rattle.starts.proofs.Alike.{Alike, equal, neither}
use Rattle.starts.proofs.CutCopies.{cut_copies}
use Rattle.starts.proofs.Prefixes.{frames_length}
use Rattle.starts.proofs.Settled.{mid_old, mid_shown, mid_steady, mid_board, settled, settled_old}
use Rattle.starts.proofs.Steady.{ReadsOld, Steady, old_refl, reads_old, same_shown, stands_neat, stands_steady, stands_tables, untouched}
use Rattle.starts.proofs.Vacant.{vacant_marked, vacant_others, vacant_own, vacant_tables, vacant_board, vacant_view}

module _ (p : Params) (b : Board) (st : Stands p b) (r : ℕ) (region : r < p.mu) (no_room_lem : has_room p (view p b r) ≡ false)
    (every : (u : ℕ) → u < p.gamma → assigned (view p b r) u ≡ true) (v : ℕ) (low : v < p.gamma)
    (few : length (valid_frames p (view p b r) v) < frames p) (case : Case p (view p b r) (reclaims v)) (w : HasFree p b) where
  z : Sizes p
  z = sizes p st.fine

  t : Tables p b
  t = stands_tables p b st

  nt : Neat p r (view p b r)
  nt = stands_neat p b st r region

  sized : (u : ℕ) → u < p.gamma → length ((view p b r).body u) ≡ block_bytes p
  sized u h = body_size p z b t r u region h (every u h)

  copied : length (copies p (view p b r) (reclaims v)) ≡ length (valid_frames p (view p b r) v)
  copied = copies_length p z r (view p b r) nt no_room_lem every sized v low few

  -- the chip once the erase is made, with its mark or without, and BST
  abbrev roomed : Bool → List ℕ
  roomed = gone_chip p z b t r region nt no_room_lem every v low few w

  abbrev kinds : Bool → List ℕ
  kinds = gone_bst p z b t r region nt no_room_lem every v low few w

  made_room : (t' : Bool) → MakesOn p b r (reclaims v) (roomed t') (kinds t') t'
  made_room = gone_makes p z b t r region nt no_room_lem every v low few w

  -- the erase is made, some frame was copied
  roomed_form : (t' : Bool) → 0 < length (valid_frames p (view p b r) v) → ReadsOld p b (roomed t')
  roomed_form t' some =
      let makes = made_room t' in
      let k : ℕ = plan_frame p (view p b r) (reclaims v) in
      let pos : 0 < plan_frame p (view p b r) (reclaims v) = unfold plan_frame in some in
      let blk : List ℕ = (with_room p (view p b r) (reclaims v)).body (plan_vblock (reclaims v)) in
      let ran : Ran p (roomed t') (roomed t') (plan_block p b r (reclaims v)) blk = record { here = makes.room.here; else = λ m ne. refl; size = refl } in
      let upto : UpTo p r (plan_vblock (reclaims v)) k blk = makes.base.front in
      let most : k ≤ frames p = omega (arith, makes.base.ready.low) in
      reads_old (mid_board p b r (reclaims v) (kinds t') (roomed t')) p.N (mid_steady p z b st r region (reclaims v) case _ _ _ makes (roomed t') blk k ran pos most upto (λ g h. equal refl))
      (mid_shown p z b st r region (reclaims v) case _ _ _ makes (roomed t') blk k ran pos most upto (λ g h. equal refl))
      (mid_old p z b st r region (reclaims v) case _ _ _ makes (roomed t') blk k ran pos most upto (λ g h. equal refl))

  -- the erase is made, and there was nothing to copy
  module _ (t' : Bool) (nothing : length (valid_frames p (view p b r) v) ≡ 0) where
    nil : {A : Type 0} (l : List A) → length l ≡ 0 → l ≡ []
    nil [] e = refl
    nil (x ∷ l) e = absurd (omega (arith, e))

    no_copies : copies p (view p b r) (reclaims v) ≡ []
    no_copies = nil (copies p (view p b r) (reclaims v)) (copied ∙ nothing)

    has : bt_at p b.bt r v ≡ none → ⊥
    has = taken p z b t r region nt no_room_lem every v low few w

    chip_is_lem : roomed t' ≡ replay_chip p b.chip (erase (bt_at p b.bt r v) ∷ cond t' (mark (bt_at p b.bt r v) ∷ []) [])
    unfolding frames_ops
    chip_is_lem = rw no_copies

    vacated : Ran p b.chip (roomed t') (bt_at p b.bt r v) (left_block p t')
    vacated = rw chip_is_lem (left_ran p z b.chip (bt_at p b.bt r v) (chip_fits p z b t r v region low has) t')

    segs : (c : ℕ) → (vacant_view p b r v).seg_of c ≡ (with_room p (view p b r) (reclaims v)).seg_of c
    unfolding vacant_view
    segs c =
        sym (seg_is p z r (view p b r) nt no_room_lem every sized v low few c ∙ ap (λ (xs : List (List ℕ)). follow p v 0 xs (view p b r).seg_of c) no_copies ∙ unfold follow in refl)

    bodies_else : (u : ℕ) → (u ≡ v → ⊥) → (vacant_view p b r v).body u ≡ (view p b r).body u
    unfolding vacant_view
    bodies_else u ne = updated_other _ v [] u ne

    body_none : (vacant_view p b r v).body v ≡ []
    unfolding vacant_view
    body_none = updated_same _ v []

    alike : (u g : ℕ) → u < p.gamma → g < frames p → Alike p (frame p ((with_room p (view p b r) (reclaims v)).body u) g) (frame p ((vacant_view p b r v).body u) g)
    alike u g h k = go (ℕ_discrete u v)
      where
        blank : all_are 255 (frame p [] g) ≡ true
        blank = unfold frame in all_are_part 255 (frame_bytes p) g [] (unfold all_are in refl)

        go : Dec (u ≡ v) → Alike p (frame p ((with_room p (view p b r) (reclaims v)).body u) g) (frame p ((vacant_view p b r v).body u) g)
        go (yes e) =
            rw (e, body_none)
            (neither (λ c. erased_holds p _ c (frame_rest p z r (view p b r) nt no_room_lem every sized v low few g (omega (arith, nothing)))) (λ c. erased_holds p (frame p [] g) c blank))
        go (no e) = equal (ap (λ (y : List ℕ). frame p y g) (bodies_else u e ∙ sym (body_else_lem p z r (view p b r) nt no_room_lem every sized v low few u e)))

    has_was : (u : ℕ) → assigned (vacant_view p b r v) u ≡ true → (u ≡ v → ⊥) × (assigned (view p b r) u ≡ true)
    has_was u a = go (ℕ_discrete u v)
      where
        go : Dec (u ≡ v) → (u ≡ v → ⊥) × (assigned (view p b r) u ≡ true)
        go (yes e) = let y : assigned (vacant_view p b r v) v ≡ true = rw e at a in absurd (never y (unfold assigned in rw body_none))
        go (no e) = (e, unfold assigned in rw (← bodies_else u e) (unfold assigned in a))

    blocks : (u : ℕ) → u < p.gamma → assigned (vacant_view p b r v) u ≡ true
        → (0 < filled p ((vacant_view p b r v).body u)) × UpTo p r u (filled p ((vacant_view p b r v).body u)) ((vacant_view p b r v).body u)
    blocks u h a = let w = has_was u a in rw (bodies_else u w.0) (nt.blocks u h w.1)

    full : (u : ℕ) → u < p.gamma → assigned (vacant_view p b r v) u ≡ true → (u ≡ plan_vblock (reclaims v) → ⊥) → filled p ((vacant_view p b r v).body u) ≡ frames p
    full u h a ne = let w = has_was u a in rw (bodies_else u w.0) (all_full p z r (view p b r) nt no_room_lem u h w.1)

    tables₂ : Tables p (vacant_board p b r v t' (roomed t'))
    tables₂ = vacant_tables p z b t st.marked r region v low has t' (roomed t') vacated

    marked₂ : (n : ℕ) → n < p.N → bst_at (vacant_board p b r v t' (roomed t')).bst n ≡ 2 → bad p (vacant_board p b r v t' (roomed t')).chip n ≡ true
    marked₂ = vacant_marked p z b t st.marked r region v low has t' (roomed t') vacated

    own₂ : view p (vacant_board p b r v t' (roomed t')) r ≡ vacant_view p b r v
    own₂ = vacant_own p z b t st.marked r region v low has t' (roomed t') vacated

    others₂ : (r' : ℕ) → r' < p.mu → (r' ≡ r → ⊥) → view p (vacant_board p b r v t' (roomed t')) r' ≡ view p b r'
    others₂ = vacant_others p z b t st.marked r region v low has t' (roomed t') vacated

    steady₂ : Steady p (vacant_board p b r v t' (roomed t'))
    steady₂ = settled p z b st r region (reclaims v) case _ _ _ (made_room t') (vacant_board p b r v t' (roomed t')) tables₂ marked₂ (vacant_view p b r v) own₂ others₂ segs alike blocks full

    vacant_form : ReadsOld p b (roomed t')
    vacant_form =
        reads_old (vacant_board p b r v t' (roomed t')) p.N steady₂
        (same_shown p z (vacant_board p b r v t' (roomed t')) steady₂ (roomed t') (vacated.size ∙ t.chip_length) (λ m h. unfold vacant_board in refl))
        (settled_old p z b st r region (reclaims v) case _ _ _ (made_room t') (vacant_board p b r v t' (roomed t')) tables₂ marked₂ (vacant_view p b r v) own₂ others₂ segs alike blocks full)

  -- among the copies
  copies_form : (k : ℕ) → 0 < k → k ≤ length (copies p (view p b r) (reclaims v)) * p.alpha
      → ReadsOld p b (replay_chip p b.chip (take k (frames_ops p (free_block p b.bst b.wear) 0 (copies p (view p b r) (reclaims v)))))
  copies_form k some most =
      let i : ℕ = (k - 1) / p.alpha in
      let m : ℕ = (k - 1) % p.alpha + 1 in
      let e : i * p.alpha + m ≡ k = omega (arith, div-add-mod' (k - 1) p.alpha) in
      let lm : (k - 1) % p.alpha < p.alpha = mod-lt (k - 1) z.sectors in
      let li : i < length (copies p (view p b r) (reclaims v)) = (div-lt_iff_lt-mul z.sectors).1 (omega arith) in
      rw (← e) (reads_old b (free_block p b.bst b.wear) (stands_steady p b st)
      (cut_copies p b st r region no_room_lem every v low few w i m li (omega arith) (omega (arith, lm))) (old_refl p b))

  -- the erase is made
  gone_form : (t' : Bool) → ReadsOld p b (roomed t')
  gone_form t' = go (ℕ_discrete (length (valid_frames p (view p b r) v)) 0)
    where
      go : Dec (length (valid_frames p (view p b r) v) ≡ 0) → ReadsOld p b (roomed t')
      go (yes f) = vacant_form t' f
      go (no f) = roomed_form t' (omega arith)

  -- the operations that make room
  pub room_form : (k : ℕ) → ReadsOld p b (replay_chip p b.chip (take k (room_ops p b r (reclaims v))))
  unfolding room_ops victim_ops plan_block
  room_form k = go (ℕ_discrete k 0) (dec_lt (length (copies p (view p b r) (reclaims v)) * p.alpha) k)
    where
      old : ℕ
      old = bt_at p b.bt r v

      made : List Op
      made = frames_ops p (free_block p b.bst b.wear) 0 (copies p (view p b r) (reclaims v))

      len : length made ≡ length (copies p (view p b r) (reclaims v)) * p.alpha
      len = frames_length p (free_block p b.bst b.wear) 0 (copies p (view p b r) (reclaims v))

      past : (xs : List Op) → length made < k → (xs ≡ []) ⊎ ((xs ≡ erase old ∷ []) ⊎ (xs ≡ erase_ops p b.wear old)) → xs ≡ take (k - length made) (erase_ops p b.wear old)
          → ReadsOld p b (replay_chip p b.chip (made ++ xs))
      past xs h (inl e) is = absurd (omega (arith, ap length (sym e ∙ is), some_taken (k - length made) (omega arith)))
        where
          some_taken : (m : ℕ) → 0 < m → 0 < length (take m (erase_ops p b.wear old))
          some_taken zero l = absurd (omega arith)
          some_taken (suc m) l = unfold erase_ops in omega arith
      past xs h (inr (inl e)) is = rw e (gone_form false)
      past xs h (inr (inr e)) is = rw e (unfold erase_ops in gone_form (worn p b.wear old))

      go : Dec (k ≡ 0) → Dec (length (copies p (view p b r) (reclaims v)) * p.alpha < k) → ReadsOld p b (replay_chip p b.chip (take k (made ++ erase_ops p b.wear old)))
      go (yes e) d = rw e (unfold replay_chip in untouched p b st)
      go (no e) (no d) =
          let o : k - length made ≡ 0 = omega (arith, len) in
          rw (take_append k made (erase_ops p b.wear old), o, append-nil (take k made)) (copies_form k (omega arith) (omega arith))
      go (no e) (yes d) =
          rw (take_append k made (erase_ops p b.wear old), take_all k made (omega (arith, len)))
          (past (take (k - length made) (erase_ops p b.wear old)) (omega (arith, len)) (first_ops p b.wear old (k - length made)) refl)
