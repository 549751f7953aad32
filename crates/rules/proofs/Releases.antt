-- A release leaves an orderly state in which the cluster's sectors read as 255, every other as before, and none of its frames is valid.
-- Assumes nothing.
use mathlib.Core.Path.{◌≡◌, refl, sym, ap, ◌∙◌}
use Prim.Native.Nat.{ℕ, suc, zero, ◌/◌, ◌<◌}
use native.Mathlib.Decide.{ℕ_discrete}
use native.Mathlib.Omega.{arith}
use mathlib.Core.Bool.{Bool, true, false, not, ◌&&◌, and-false, and-true, cond}
use mathlib.Core.List.{List, [], ◌∷◌}
use lib.Dec.{eqb}
use lib.ListN.{length-set, replicate, set}
use lib.Seq.{get_or-set_other}
use borrow.Author.Tests.{eq-eqb, ne_eqb}
use Rattle.lists.specs.Below.{updated}
use Rattle.lists.proofs.Tests.{all_at, all_below_intro, all_true_lem, truths}
use Rattle.rules.specs.declared.Params.{Params}
use Rattle.rules.specs.Numbers.{region_of, segment_of}
use Rattle.rules.specs.Marks.{marks_of}
use Rattle.rules.specs.Traces.{finish, replay_chip, replay_wear}
use Rattle.rules.specs.Orderly.{cluster_rule, entry_rule, full_rule, open_rule, orderly, region_blocks, region_fst}
use Rattle.rules.specs.Pages.{frame, held, last_in, programmed}
use Rattle.rules.specs.Parameters.{frames}
use Rattle.rules.specs.Regions.{View, assigned, frame_of, sector, sector_in, valid, view, view_of}
use Rattle.rules.specs.Release.{released}
use Rattle.rules.specs.Replies.{lengths_fit}
use Rattle.rules.specs.Tables.{Board, board_of, ct_at, none}
use Rattle.rules.specs.Machine.{without}
use Rattle.rules.proofs.Admitted.{orderly_all, orderly_region}
use Rattle.rules.proofs.Frames.{seg_low}
use Rattle.rules.proofs.RegionFacts.{region_orderly}
use Rattle.rules.proofs.Sizes.{Sizes}
use Rattle.rules.proofs.Stamps.{stamps_in, stamps_out}
use Rattle.rules.proofs.TableFacts.{Tables, lengths_out, tables_in}

-- ---- the view

-- the CT entry of the cluster is none, also where the table does not have it
pub entry_none : (ct : List ℕ) (c : ℕ) → ct_at (set ct c none) c ≡ none
unfolding ct_at
entry_none [] c = refl
entry_none (x ∷ ct) zero = refl
entry_none (x ∷ ct) (suc c) = entry_none ct c

-- where it is none already, the table stays
entry_stays : (ct : List ℕ) (c : ℕ) → ct_at ct c ≡ none → set ct c none ≡ ct
unfolding ct_at
entry_stays [] c e = refl
entry_stays (x ∷ ct) zero e = ap (λ (y : ℕ). y ∷ ct) (sym e)
entry_stays (x ∷ ct) (suc c) e = ap (λ (l : List ℕ). x ∷ l) (entry_stays ct c e)

-- every region sees the board without the cluster; one that it is not in sees no change
pub released_view : (p : Params) (b : Board) (c r : ℕ) → view p (released p b c) r ≡ without (view p b r) c
unfolding view_of released replay_chip without updated
released_view p b c r = λ i. record { seg_of = λ x. at x (ℕ_discrete x c) i; last_seg = (view p b r).last_seg; body = (view p b r).body }
  where
    either : (t : Bool) → cond t none none ≡ none
    either true = refl
    either false = refl

    at : (x : ℕ) → Dec (x ≡ c) → cond (eqb (region_of p x) r) (ct_at (set b.ct c none) x) none ≡ cond (eqb x c) none (cond (eqb (region_of p x) r) (ct_at b.ct x) none)
    at x (yes e) = rw (e, eq-eqb c c refl, entry_none) (either (eqb (region_of p c) r))
    at x (no e) = rw (ne_eqb x c e) (ap (λ (s : ℕ). cond (eqb (region_of p x) r) s none) (unfold ct_at in get_or-set_other b.ct c x none none e))

-- of a region that the cluster is not in, the view stays
pub released_else : (p : Params) (b : Board) (c r : ℕ) → (region_of p c ≡ r → ⊥) → view p (released p b c) r ≡ view p b r
unfolding view_of released replay_chip
released_else p b c r ne = λ i. record { seg_of = λ x. at x (ℕ_discrete x c) i; last_seg = (view p b r).last_seg; body = (view p b r).body }
  where
    at : (x : ℕ) → Dec (x ≡ c) → cond (eqb (region_of p x) r) (ct_at (set b.ct c none) x) none ≡ cond (eqb (region_of p x) r) (ct_at b.ct x) none
    at x (yes e) = rw (e, ne_eqb (region_of p c) r ne)
    at x (no e) = ap (λ (s : ℕ). cond (eqb (region_of p x) r) s none) (unfold ct_at in get_or-set_other b.ct c x none none e)

-- ---- order

module _ (p : Params) (vw : View) (c : ℕ) where
  gone : (without vw c).seg_of c ≡ none
  unfolding without updated
  gone = rw (eq-eqb c c refl)

  pub other : (x : ℕ) → (x ≡ c → ⊥) → (without vw c).seg_of x ≡ vw.seg_of x
  unfolding without updated
  other x ne = rw (ne_eqb x c ne)

  -- the used blocks and the FST entry are the same, and a CT entry is none or as before
  without_orderly : (r : ℕ) → region_orderly p r vw ≡ true → region_orderly p r (without vw c) ≡ true
  unfolding region_orderly
  without_orderly r h =
      let t = truths _ h in
      all_true_lem _ (
        unfold without region_blocks assigned in t.0,
        (
          unfold without region_fst open_rule full_rule assigned in t.1.0,
          (all_below_intro p.C _ (λ x k. entry x (ℕ_discrete x c) (all_at p.C (cluster_rule p vw) t.1.1.0 x k)), tt),
        ),
      )
    where
      entry : (x : ℕ) → Dec (x ≡ c) → cluster_rule p vw x ≡ true → cluster_rule p (without vw c) x ≡ true
      entry x (yes e) k = unfold cluster_rule in rw (e, gone)
      entry x (no e) k = unfold cluster_rule entry_rule assigned in rw (other x e) (unfold without in unfold cluster_rule entry_rule assigned in k)

  -- ---- what it reads as

  pub without_reads : (j : ℕ) → sector_in p (without vw c) c j ≡ replicate p.s 255
  unfolding sector_in
  without_reads j = rw gone

  pub without_others : (x j : ℕ) → (x ≡ c → ⊥) → sector_in p (without vw c) x j ≡ sector_in p vw x j
  unfolding sector_in frame_of
  without_others x j ne = rw (other x ne) (unfold without in refl)

  -- ---- which frames are valid

  kept : (t l : Bool) (sg h : ℕ) → (sg ≡ none → ⊥) → Dec (h ≡ c)
      → t && (eqb ((without vw c).seg_of h) sg && l) ≡ (t && (eqb (vw.seg_of h) sg && l)) && not (eqb h c)
  kept t l sg h ne (yes e) = rw (e, gone, ne_eqb none sg (λ x. ne (sym x)), eq-eqb c c refl, and-false (t && (eqb (vw.seg_of c) sg && l))) (and-false t)
  kept t l sg h ne (no e) = rw (other h e, ne_eqb h c e) (sym (and-true (t && (eqb (vw.seg_of h) sg && l))))

  pub without_valid : Sizes p → (v f : ℕ) → v < p.gamma → f < frames p
      → valid p (without vw c) v f ≡ valid p vw v f && not (eqb (held p (frame p (vw.body v) f)) c)
  unfolding valid without
  without_valid z v f hv hf =
      let fr : List ℕ = frame p (vw.body v) f in
      kept (programmed p fr) (eqb (last_in p (vw.body v) (f / p.beta) (held p fr)) f) (segment_of p v f) (held p fr)
      (λ e. omega (arith, seg_low p z v f hf hv, z.few)) (ℕ_discrete (held p fr) c)

-- ---- the board

module _ (p : Params) (b : Board) (c : ℕ) where
  -- the marks are those of the board that is left
  pub release_marks : (released p b c).marks ≡ marks_of p (released p b c)
  unfolding released
  release_marks = refl

  release_tables : Tables p b → Tables p (released p b c)
  unfolding released replay_chip replay_wear
  release_tables t =
      record {
        chip_length = t.chip_length;
        ct_length = length-set b.ct c none ∙ t.ct_length;
        bt_length = t.bt_length;
        fst_length = t.fst_length;
        bst_length = t.bst_length;
        wear_length = t.wear_length;
        stamps_length = t.stamps_length;
        kinds = t.kinds;
        names = t.names;
        once = t.once;
        used = t.used;
        used_back = t.used_back;
        free = t.free;
      }

  pub release_lengths : lengths_fit p b ≡ true → orderly p b ≡ true → lengths_fit p (released p b c) ≡ true
  release_lengths l o = lengths_out p (released p b c) (release_tables (tables_in p b l o)) release_marks

  -- T-03: "Where it is none already, nothing changes"
  pub release_same : b.marks ≡ marks_of p b → ct_at b.ct c ≡ none → released p b c ≡ b
  unfolding released replay_chip replay_wear
  release_same m e =
      ap (λ (ct : List ℕ). finish p b [] (record { ct = ct; bt = b.bt; fst = b.fst; bst = b.bst; stamps = b.stamps })) (entry_stays b.ct c e)
      ∙ ap (λ (marks : List ℕ). board_of b.chip b.ct b.bt b.fst b.bst b.wear marks b.stamps) (sym m)

  pub release_orderly : Sizes p → lengths_fit p b ≡ true → orderly p b ≡ true → orderly p (released p b c) ≡ true
  release_orderly z l o =
      orderly_all p (released p b c) z (release_tables (tables_in p b l o))
      (λ r k. rw (released_view p b c r) (without_orderly p (view p b r) c r (orderly_region p b o r k))) release_marks
      (stamps_out p (released p b c) (λ r k. rw (released_view p b c r) (unfold released without in stamps_in p b o r k)))

  -- "its sectors read as 255", and every other sector as before
  pub release_reads : (j : ℕ) → sector p (released p b c) c j ≡ replicate p.s 255
  unfolding sector
  release_reads j = rw (released_view p b c (region_of p c)) (without_reads p (view p b (region_of p c)) c j)

  pub release_others : (x j : ℕ) → (x ≡ c → ⊥) → sector p (released p b c) x j ≡ sector p b x j
  unfolding sector
  release_others x j ne = rw (released_view p b c (region_of p x)) (without_others p (view p b (region_of p x)) c x j ne)

  -- "the room comes back at reclaim": the frames that are valid then are those of the other clusters
  pub release_valid : Sizes p → (r v f : ℕ) → v < p.gamma → f < frames p
      → valid p (view p (released p b c) r) v f ≡ valid p (view p b r) v f && not (eqb (held p (frame p ((view p b r).body v) f)) c)
  release_valid z r v f hv hf = rw (released_view p b c r) (without_valid p (view p b r) c z v f hv hf)
