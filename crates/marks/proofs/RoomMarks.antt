-- Which frames are valid once a plan has made room: as before where a block goes on or is opened; after a reclaim the victim's copies, which
-- stand in its first frames, and in every other block the same as before, since CT entries that leave a segment of the victim go to one of it.
-- Assumes nothing.
use mathlib.Core.Path.{◌≡◌, refl, sym, ap, ◌∙◌}
use mathlib.Core.Logic.{◌⊎◌, inl, inr}
use Prim.Native.Nat.{ℕ, suc, ◌+◌, ◌<◌}
use native.Mathlib.Nat.{add-zero}
use native.Mathlib.Omega.{arith}
use native.Mathlib.Decide.{ℕ_discrete, dec_lt}
use mathlib.Core.Bool.{Bool, true, false, ◌&&◌, cond}
use mathlib.Core.List.{List, [], ◌∷◌}
use lib.Dec.{eqb, ltb}
use lib.ListN.{length, get_or}
use borrow.Author.Tests.{eq-eqb, le-ltb, lt-ltb, ne_eqb}
use Rattle.lists.specs.Below.{updated}
use Rattle.lists.proofs.Joins.{updated_other, updated_same}
use Rattle.rules.specs.declared.Params.{Params}
use Rattle.rules.specs.Numbers.{segment_of, vblock_of}
use Rattle.rules.specs.Pages.{frame, held}
use Rattle.rules.specs.Parameters.{block_bytes, frames}
use Rattle.rules.specs.Regions.{View, assigned, valid, valid_frames, view}
use Rattle.rules.specs.Tables.{Board}
use Rattle.rules.specs.Write.{Plan, continues, copies, has_room, opens, plan_of, reclaims}
use Rattle.rules.proofs.Replays.{fresh_all}
use Rattle.rules.proofs.Frames.{erased_not, seg_vblock}
use Rattle.rules.proofs.ReclaimView.{body_else_lem, copies_length, copy_at, copy_valid, nth_spec, nth_valid, reclaim_base, seg_is}
use Rattle.rules.proofs.RegionFacts.{Neat}
use Rattle.rules.proofs.Sizes.{Sizes}
use Rattle.rules.proofs.TableFacts.{Tables}
use Rattle.rules.proofs.Victims.{valid_out}
use Rattle.rules.proofs.Views.{body_size}
use Rattle.rules.proofs.PlanCases.{Case, goes_on, plan_case, renews, takes}
use Rattle.marks.specs.Kept.{first_marks, room_marks}
use Rattle.rules.specs.Machine.{follow, with_room}
use Rattle.rules.specs.Marks.{Marks, marked}
use Rattle.marks.proofs.Counted.{erased_invalid, unassigned_invalid}
use Rattle.marks.proofs.FrameMarks.{marked_valid, unmarked}

-- ---- to reclaim

-- a CT entry stays, or follows one of the frames
follow_cases : (p : Params) (v c : ℕ) (xs : List (List ℕ)) (to : ℕ) (s : ℕ → ℕ)
    → (follow p v to xs s c ≡ s c) ⊎ ((i : ℕ) × (i < length xs) × (held p (get_or xs i []) ≡ c) × (follow p v to xs s c ≡ segment_of p v (to + i)))
unfolding follow
follow_cases p v c [] to s = inl refl
follow_cases p v c (x ∷ xs) to s = go (follow_cases p v c xs (suc to) (updated s (held p x) (segment_of p v to))) (ℕ_discrete c (held p x))
  where
    go : (follow p v (suc to) xs (updated s (held p x) (segment_of p v to)) c ≡ updated s (held p x) (segment_of p v to) c)
        ⊎ ((i : ℕ) × (i < length xs) × (held p (get_or xs i []) ≡ c) × (follow p v (suc to) xs (updated s (held p x) (segment_of p v to)) c ≡ segment_of p v (suc to + i)))
        → Dec (c ≡ held p x)
        → (follow p v to (x ∷ xs) s c ≡ s c) ⊎ ((i : ℕ) × (i < suc (length xs)) × (held p (get_or (x ∷ xs) i []) ≡ c) × (follow p v to (x ∷ xs) s c ≡ segment_of p v (to + i)))
    go (inr w) d = let e : suc to + w.0 ≡ to + suc w.0 = omega arith in inr (suc w.0, omega (arith, w.1), w.2, w.3 ∙ ap (segment_of p v) e)
    go (inl e) (yes d) = inr (0, omega arith, sym d, e ∙ rw d (updated_same s (held p x) (segment_of p v to)) ∙ ap (segment_of p v) (sym (add-zero to)))
    go (inl e) (no d) = inl (e ∙ updated_other s (held p x) (segment_of p v to) c d)

module _ (p : Params) (z : Sizes p) (r : ℕ) (vw : View) (neat : Neat p r vw) (no_room_lem : has_room p vw ≡ false) (every : (u : ℕ) → u < p.gamma → assigned vw u ≡ true)
    (sized : (u : ℕ) → u < p.gamma → length (vw.body u) ≡ block_bytes p) (v : ℕ) (low : v < p.gamma) (few : length (valid_frames p vw v) < frames p) where
  -- the victim's frames
  victim_valid : (g : ℕ) → g < frames p → valid p (with_room p vw (reclaims v)) v g ≡ ltb g (length (valid_frames p vw v))
  victim_valid g h = go (dec_lt g (length (valid_frames p vw v)))
    where
      go : Dec (g < length (valid_frames p vw v)) → valid p (with_room p vw (reclaims v)) v g ≡ ltb g (length (valid_frames p vw v))
      go (yes k) = valid_out p (with_room p vw (reclaims v)) v g (copy_valid p z r vw neat no_room_lem every sized v low few g k) ∙ sym (lt-ltb g _ k)
      go (no k) =
          let e = erased_not p _ ((reclaim_base p z r vw neat no_room_lem every sized v low few).ready.rest g (omega arith) h) in
          rw (le-ltb g (length (valid_frames p vw v)) (omega arith)) (unfold valid in rw e)

  -- those of another block
  module _ (u g : ℕ) (ne : u ≡ v → ⊥) (h : g < frames p) where
    apart : (f : ℕ) → f < frames p → segment_of p v f ≡ segment_of p u g → ⊥
    apart f k e = ne (sym (seg_vblock p z u g h) ∙ ap (vblock_of p) (sym e) ∙ seg_vblock p z v f k)

    names_same : (c : ℕ) → eqb ((with_room p vw (reclaims v)).seg_of c) (segment_of p u g) ≡ eqb (vw.seg_of c) (segment_of p u g)
    names_same c = go (follow_cases p v c (copies p vw (reclaims v)) 0 vw.seg_of)
      where
        is : (with_room p vw (reclaims v)).seg_of c ≡ follow p v 0 (copies p vw (reclaims v)) vw.seg_of c
        is = seg_is p z r vw neat no_room_lem every sized v low few c

        go : (follow p v 0 (copies p vw (reclaims v)) vw.seg_of c ≡ vw.seg_of c)
            ⊎ ((i : ℕ) × (i < length (copies p vw (reclaims v))) × (held p (get_or (copies p vw (reclaims v)) i []) ≡ c)
            × (follow p v 0 (copies p vw (reclaims v)) vw.seg_of c ≡ segment_of p v (0 + i)))
            → eqb ((with_room p vw (reclaims v)).seg_of c) (segment_of p u g) ≡ eqb (vw.seg_of c) (segment_of p u g)
        go (inl e) = rw (is ∙ e)
        go (inr w) =
            let i = w.0 in
            let k : i < length (valid_frames p vw v) = rw (copies_length p z r vw neat no_room_lem every sized v low few) at w.1 in
            let n = nth_spec p z r vw neat no_room_lem every sized v low few i k in
            let old : vw.seg_of c ≡ segment_of p v (nth_valid p vw v i) =
            ap vw.seg_of (sym w.2 ∙ ap (held p) (copy_at p z r vw neat no_room_lem every sized v low few i k)) ∙ n.1.names in
            rw (
              ne_eqb ((with_room p vw (reclaims v)).seg_of c) (segment_of p u g) (λ x. apart (0 + i) (omega arith) (sym (is ∙ w.3) ∙ x)),
              ne_eqb (vw.seg_of c) (segment_of p u g) (λ x. apart (nth_valid p vw v i) n.0 (sym old ∙ x)),
            )

    other_valid : valid p (with_room p vw (reclaims v)) u g ≡ valid p vw u g
    unfolding valid
    other_valid = rw (body_else_lem p z r vw neat no_room_lem every sized v low few u ne, names_same (held p (frame p (vw.body u) g)))

  pub reclaim_marks : (u g : ℕ) → marked p (with_room p vw (reclaims v)) u g ≡ cond (eqb u v) (ltb g (length (valid_frames p vw v))) (marked p vw u g)
  reclaim_marks u g = go (ℕ_discrete u v) (dec_lt g (frames p))
    where
      go : Dec (u ≡ v) → Dec (g < frames p) → marked p (with_room p vw (reclaims v)) u g ≡ cond (eqb u v) (ltb g (length (valid_frames p vw v))) (marked p vw u g)
      go (yes e) (yes h) = rw (eq-eqb u v e, e, marked_valid p (with_room p vw (reclaims v)) v g h) (victim_valid g h)
      go (yes e) (no h) = rw (eq-eqb u v e, unmarked p (with_room p vw (reclaims v)) u g (omega arith), le-ltb g (length (valid_frames p vw v)) (omega arith))
      go (no e) (yes h) = rw (ne_eqb u v e, marked_valid p (with_room p vw (reclaims v)) u g h, marked_valid p vw u g h) (other_valid u g e h)
      go (no e) (no h) = rw (ne_eqb u v e, unmarked p (with_room p vw (reclaims v)) u g (omega arith), unmarked p vw u g (omega arith))

-- ---- to open

pub opens_marks : (p : Params) (vw : View) (v : ℕ) → assigned vw v ≡ false → (u g : ℕ) → marked p (with_room p vw (opens v)) u g ≡ marked p vw u g
unfolding marked
opens_marks p vw v lacks u g = ap (λ (t : Bool). ltb g (frames p) && t) (go (ℕ_discrete u v))
  where
    go : Dec (u ≡ v) → valid p (with_room p vw (opens v)) u g ≡ valid p vw u g
    go (yes e) = rw (e, unassigned_invalid p vw v g lacks) (erased_invalid p (with_room p vw (opens v)) v g (unfold with_room in rw updated_same (fresh_all p)))
    go (no e) = unfold valid with_room in rw (updated_other vw.body v _ u e)

-- ---- the region's plan

module _ (p : Params) (z : Sizes p) (b : Board) (t : Tables p b) (r : ℕ) (region : r < p.mu) (nt : Neat p r (view p b r)) where
  pub room_marks_lem : (m : Marks) (v f : ℕ) → m r v f ≡ marked p (view p b r) v f
      → room_marks p (view p b r) r (plan_of p (view p b r)) m r v f ≡ marked p (with_room p (view p b r) (plan_of p (view p b r))) v f
  room_marks_lem m v f is = go (plan_of p (view p b r)) (plan_case p z r (view p b r) nt)
    where
      go : (pl : Plan) → Case p (view p b r) pl → room_marks p (view p b r) r pl m r v f ≡ marked p (with_room p (view p b r) pl) v f
      go pl (goes_on h e) = rw e (unfold room_marks with_room in is)
      go pl (takes h u low lacks e) = rw (e, opens_marks p (view p b r) u lacks v f) (unfold room_marks in is)
      go pl (renews h every u low few e) =
          rw (e, reclaim_marks p z r (view p b r) nt h every (λ w k. body_size p z b t r w region k (every w k)) u low few v f)
          (unfold room_marks first_marks in rw (eq-eqb r r refl, is))

-- the marks of another region stay
pub room_elsewhere : (p : Params) (vw : View) (r : ℕ) (pl : Plan) (m : Marks) (r' v f : ℕ) → (r' ≡ r → ⊥) → room_marks p vw r pl m r' v f ≡ m r' v f
unfolding room_marks first_marks
room_elsewhere p vw r (continues u g) m r' v f ne = refl
room_elsewhere p vw r (opens u) m r' v f ne = refl
room_elsewhere p vw r (reclaims u) m r' v f ne = rw (ne_eqb r' r ne)
