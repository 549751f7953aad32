-- What a start finds in a region's view: of each cluster a whole frame of largest stamp, and the open block. So the CT and FST entries that it makes keep the rules.
-- Assumes nothing.
use mathlib.Core.Path.{◌≡◌, refl, sym, ap, ◌∙◌}
use mathlib.Core.Logic.{◌⊎◌, inl, inr}
use Prim.Native.Nat.{ℕ, ◌+◌, ◌-◌, ◌*◌, ◌/◌, ◌%◌, ◌≤◌, ◌<◌}
use native.Mathlib.Nat.{add-zero, div-eq_of_lt, div-lt_iff_lt-mul, mod-eq_of_lt, mod-lt, mul-add-div_right, mul-add-mod_self_right, mul-le-mul}
use native.Mathlib.Omega.{arith}
use mathlib.Core.Bool.{Bool, true, false, ◌&&◌}
use mathlib.Core.List.{List}
use lib.Dec.{eqb}
use borrow.Author.Tests.{eq-eqb, eqb-true, leb-true, ne_eqb, not-false}
use Rattle.lists.specs.Below.{first_below, most_below}
use Rattle.lists.proofs.Counts.{count_unique}
use Rattle.lists.proofs.Most.{most_spec}
use Rattle.lists.proofs.Parts.{next}
use Rattle.lists.proofs.Searches.{first_spec, last_found}
use Rattle.lists.proofs.Tests.{and_intro, and_left, never, so}
use Rattle.rules.specs.declared.Params.{Params}
use Rattle.rules.specs.Parameters.{frames}
use Rattle.rules.specs.Numbers.{place_of, segment_of, vblock_of}
use Rattle.rules.specs.Tables.{none, not_found}
use Rattle.rules.specs.Pages.{filled, frame, holds, is_full, last_in, programmed, stamp_of}
use Rattle.rules.specs.Regions.{View, assigned, frame_in, largest_stamp, region_frames, stamp_in}
use Rattle.rules.specs.Start.{found_fst, found_segment, is_open, open_once, same_stamp, stamps_apart}
use Rattle.rules.proofs.Frames.{seg_low, seg_place, seg_vblock}
use Rattle.rules.proofs.Isolation.{view_path}
use Rattle.rules.proofs.RegionFacts.{Entry, Open, filled_le}
use Rattle.rules.proofs.Sizes.{Sizes}
use Rattle.rules.proofs.Stamps.{Bounded}
use Rattle.starts.specs.Timely.{WholeAt, frame_stamp}
use Rattle.starts.proofs.Timely.{whole_has}

-- ---- by the bytes of the region's blocks alone

module _ (p : Params) (vw vw' : View) (bodies : (v : ℕ) → vw.body v ≡ vw'.body v) where
  same_bodies : vw ≡ record { seg_of = vw.seg_of; last_seg = vw.last_seg; body = vw'.body }
  same_bodies = view_path (λ c. refl) refl bodies

  pub same_fst : found_fst p vw ≡ found_fst p vw'
  same_fst = ap (found_fst p) same_bodies ∙ unfold found_fst is_open assigned in refl

  pub same_once : open_once p vw ≡ open_once p vw'
  same_once = ap (open_once p) same_bodies ∙ unfold open_once is_open assigned in refl

  pub same_segment : (c : ℕ) → found_segment p vw c ≡ found_segment p vw' c
  same_segment c = ap (λ (y : View). found_segment p y c) same_bodies ∙ unfold found_segment stamp_in frame_in in refl

  pub same_largest : largest_stamp p vw ≡ largest_stamp p vw'
  same_largest = ap (largest_stamp p) same_bodies ∙ unfold largest_stamp stamp_in frame_in in refl

  pub same_apart : stamps_apart p vw ≡ stamps_apart p vw'
  same_apart = ap (stamps_apart p) same_bodies ∙ unfold stamps_apart same_stamp stamp_in frame_in in refl

-- ---- the frames of a region, counted through its virtual blocks

pub few_frames : (p : Params) → Sizes p → region_frames p ≤ not_found
unfolding region_frames
few_frames p z = omega (arith, mul-le-mul z.gamma_high z.short)

module _ (p : Params) (z : Sizes p) (vw : View) where
  pub number_low : (v f : ℕ) → v < p.gamma → f < frames p → v * frames p + f < region_frames p
  unfolding region_frames
  number_low v f h k = omega (arith, next (frames p) v p.gamma h)

  number_is : (v f : ℕ) → f < frames p → ((v * frames p + f) / frames p ≡ v) × ((v * frames p + f) % frames p ≡ f)
  number_is v f k = (rw (mul-add-div_right z.some, div-eq_of_lt k) (add-zero v), rw mul-add-mod_self_right (mod-eq_of_lt k))

  pub frame_number : (v f : ℕ) → f < frames p → frame_in p vw (v * frames p + f) ≡ frame p (vw.body v) f
  unfolding frame_in
  frame_number v f k = let w = number_is v f k in rw (w.0, w.1)

  pub stamp_number : (v f : ℕ) → f < frames p → stamp_in p vw (v * frames p + f) ≡ frame_stamp p vw v f
  unfolding stamp_in
  stamp_number v f k = ap (stamp_of p) (frame_number v f k)

  -- no stamp of a programmed frame is above the largest
  pub largest_bounds : Bounded p vw (largest_stamp p vw)
  unfolding largest_stamp
  largest_bounds v f hv hf w = go (most_spec (stamp_in p vw) not_found (region_frames p) (λ i. programmed p (frame_in p vw i)) (few_frames p z))
    where
      i : ℕ
      i = most_below (stamp_in p vw) not_found (region_frames p) (λ i. programmed p (frame_in p vw i))

      on : programmed p (frame_in p vw (v * frames p + f)) ≡ true
      on = rw (frame_number v f hf) w

      go : ((i ≡ not_found) × ((j : ℕ) → j < region_frames p → programmed p (frame_in p vw j) ≡ false))
          ⊎ ((i < region_frames p) × (programmed p (frame_in p vw i) ≡ true) × ((j : ℕ) → j < region_frames p → programmed p (frame_in p vw j) ≡ true → stamp_in p vw j ≤ stamp_in p vw i))
          → frame_stamp p vw v f ≤ largest_stamp p vw
      go (inl k) = absurd (never on (k.1 (v * frames p + f) (number_low v f hv hf)))
      go (inr k) =
          rw (ne_eqb i not_found (λ x. omega (arith, k.0, x, few_frames p z)))
          (omega (arith, k.2 (v * frames p + f) (number_low v f hv hf) on, stamp_number v f hf))

  -- ---- CT

  -- a cluster is found in the segment of a whole frame of largest stamp, or it has no whole frame
  pub found_frame : (c : ℕ) → ((found_segment p vw c ≡ none) × ((v f : ℕ) → WholeAt p vw c v f → ⊥))
      ⊎ ((v : ℕ) × (f : ℕ) × WholeAt p vw c v f × (found_segment p vw c ≡ segment_of p v f) × ((u g : ℕ) → WholeAt p vw c u g → frame_stamp p vw u g ≤ frame_stamp p vw v f))
  unfolding found_segment
  found_frame c = go (most_spec (stamp_in p vw) not_found (region_frames p) (λ i. holds p (frame_in p vw i) c) (few_frames p z))
    where
      i : ℕ
      i = most_below (stamp_in p vw) not_found (region_frames p) (λ i. holds p (frame_in p vw i) c)

      go : ((i ≡ not_found) × ((j : ℕ) → j < region_frames p → holds p (frame_in p vw j) c ≡ false))
          ⊎ ((i < region_frames p) × (holds p (frame_in p vw i) c ≡ true) × ((j : ℕ) → j < region_frames p → holds p (frame_in p vw j) c ≡ true → stamp_in p vw j ≤ stamp_in p vw i))
          → ((found_segment p vw c ≡ none) × ((v f : ℕ) → WholeAt p vw c v f → ⊥))
          ⊎ ((v : ℕ) × (f : ℕ) × WholeAt p vw c v f × (found_segment p vw c ≡ segment_of p v f) × ((u g : ℕ) → WholeAt p vw c u g → frame_stamp p vw u g ≤ frame_stamp p vw v f))
      go (inl w) =
          inl (rw (eq-eqb i not_found w.0), λ v f a. never (rw (frame_number v f a.low) a.whole) (w.1 (v * frames p + f) (number_low v f a.block a.low)))
      go (inr w) =
          inr (
            i / frames p,
            i % frames p,
            record { block = (div-lt_iff_lt-mul z.some).1 (unfold region_frames in w.0); low = mod-lt i z.some; whole = unfold frame_in in w.1 },
            rw (ne_eqb i not_found (λ x. omega (arith, w.0, x, few_frames p z))),
            λ u g a. greatest u g a,
          )
        where
          greatest : (u g : ℕ) → WholeAt p vw c u g → frame_stamp p vw u g ≤ frame_stamp p vw (i / frames p) (i % frames p)
          greatest u g a =
              let h : holds p (frame_in p vw (u * frames p + g)) c ≡ true = rw (frame_number u g a.low) a.whole in
              let k : stamp_in p vw (u * frames p + g) ≤ stamp_in p vw i = w.2 (u * frames p + g) (number_low u g a.block a.low) h in
              let d : stamp_in p vw i ≡ frame_stamp p vw (i / frames p) (i % frames p) = unfold stamp_in frame_in in refl in
              omega (arith, k, stamp_number u g a.low, d)

  -- so an entry that is as found leads to a whole frame of its cluster
  pub entry_found : (c : ℕ) → vw.seg_of c ≡ found_segment p vw c → (vw.seg_of c ≡ none) ⊎ Entry p vw c
  entry_found c e = go (found_frame c)
    where
      named : (v f : ℕ) → WholeAt p vw c v f → vw.seg_of c ≡ segment_of p v f → Entry p vw c
      named v f w s =
          let a : vblock_of p (vw.seg_of c) ≡ v = ap (vblock_of p) s ∙ seg_vblock p z v f w.low in
          let k : place_of p (vw.seg_of c) ≡ f / p.beta = ap (place_of p) s ∙ seg_place p z v f w.low in
          record {
            low = rw s (seg_low p z v f w.low w.block);
            has = rw a (whole_has p vw c v f w);
            held =
                rw (a, k) (unfold last_in in (
                last_found not_found (frames p) (λ g. eqb (g / p.beta) (f / p.beta) && holds p (frame p (vw.body v) g) c) f w.low
                (and_intro (eq-eqb (f / p.beta) (f / p.beta) refl) w.whole)
                ).1);
          }

      go : ((found_segment p vw c ≡ none) × ((v f : ℕ) → WholeAt p vw c v f → ⊥))
          ⊎ ((v : ℕ) × (f : ℕ) × WholeAt p vw c v f × (found_segment p vw c ≡ segment_of p v f) × ((u g : ℕ) → WholeAt p vw c u g → frame_stamp p vw u g ≤ frame_stamp p vw v f))
          → (vw.seg_of c ≡ none) ⊎ Entry p vw c
      go (inl w) = inl (e ∙ w.0)
      go (inr (v, f, a, s, most)) = inr (named v f a (e ∙ s))

-- ---- FST

full_filled : (p : Params) (blk : List ℕ) → is_full p blk ≡ true → filled p blk ≡ frames p
unfolding is_full
full_filled p blk h = eqb-true _ _ h

-- a block that is not open is full
not_open : (p : Params) (vw : View) (v : ℕ) → is_open p vw v ≡ false → assigned vw v ≡ true → filled p (vw.body v) ≡ frames p
unfolding is_open
not_open p vw v e a = full_filled p (vw.body v) (not-false _ (rw a at e))

open_has : (p : Params) (vw : View) (v : ℕ) → is_open p vw v ≡ true → assigned vw v ≡ true
unfolding is_open
open_has p vw v e = and_left (assigned vw v) _ e

pub one_open : (p : Params) (vw : View) → open_once p vw ≡ true → (u o : ℕ) → u < p.gamma → o < p.gamma → is_open p vw u ≡ true → is_open p vw o ≡ true → u ≡ o
unfolding open_once
one_open p vw once = count_unique p.gamma (is_open p vw) (leb-true _ _ once)

module _ (p : Params) (z : Sizes p) (vw : View) (last : vw.last_seg ≡ found_fst p vw) where
  γ_few : p.gamma ≤ not_found
  γ_few = omega (arith, z.gamma_high)

  abbrev found : (ℕ → Bool) → ℕ
  found = first_below not_found p.gamma

  -- no block
  pub none_found : ((v : ℕ) → v < p.gamma → assigned vw v ≡ false) → vw.last_seg ≡ none
  unfolding found_fst
  none_found h = last ∙ rw (nothing (is_open p vw) (λ v k e. open_has p vw v e), nothing (assigned vw) (λ v k e. e))
    where
      nothing : (f : ℕ → Bool) → ((v : ℕ) → v < p.gamma → f v ≡ true → assigned vw v ≡ true) → found f ≡ not_found
      nothing f in-view = pick (first_spec not_found p.gamma f γ_few)
        where
          pick : ((found f ≡ not_found) × ((i : ℕ) → i < p.gamma → f i ≡ false)) ⊎ ((found f < p.gamma) × (f (found f) ≡ true)) → found f ≡ not_found
          pick (inl w) = w.0
          pick (inr w) = absurd (never (in-view (found f) w.0 w.1) (h (found f) w.0))

  -- the open block that is found: every other block is full
  module _ (once : open_once p vw ≡ true) (some : (v : ℕ) → v < p.gamma → assigned vw v ≡ true → 0 < filled p (vw.body v)) where
    names_open_lem : (o : ℕ) → o < p.gamma → assigned vw o ≡ true → vw.last_seg ≡ segment_of p o (filled p (vw.body o) - 1)
        → ((u : ℕ) → u < p.gamma → (u ≡ o → ⊥) → assigned vw u ≡ true → filled p (vw.body u) ≡ frames p) → Open p vw
    names_open_lem o h a e rest =
        let k : filled p (vw.body o) - 1 < frames p = omega (arith, filled_le p (vw.body o), some o h a) in
        let w : vblock_of p vw.last_seg ≡ o = ap (vblock_of p) e ∙ seg_vblock p z o (filled p (vw.body o) - 1) k in
        record { low = rw e (seg_low p z o (filled p (vw.body o) - 1) k h); has = rw w a; last = rw w e; full = λ u hu ne au. rest u hu (λ x. ne (x ∙ sym w)) au }

    pub open_found : (v : ℕ) → v < p.gamma → assigned vw v ≡ true → Open p vw
    unfolding found_fst
    open_found v h a = go (first_spec not_found p.gamma (is_open p vw) γ_few)
      where
        o : ℕ
        o = found (is_open p vw)

        go : ((o ≡ not_found) × ((i : ℕ) → i < p.gamma → is_open p vw i ≡ false)) ⊎ ((o < p.gamma) × (is_open p vw o ≡ true)) → Open p vw
        go (inr w) =
            names_open_lem o w.0 (open_has p vw o w.1) (last ∙ rw (ne_eqb o not_found (λ x. omega (arith, w.0, x, γ_few)), ne_eqb o not_found (λ x. omega (arith, w.0, x, γ_few))))
            (λ u hu ne au. other u hu ne au (so (is_open p vw u)))
          where
            other : (u : ℕ) → u < p.gamma → (u ≡ o → ⊥) → assigned vw u ≡ true → (is_open p vw u ≡ true) ⊎ (is_open p vw u ≡ false) → filled p (vw.body u) ≡ frames p
            other u hu ne au (inl f) = absurd (ne (one_open p vw once u o hu w.0 f w.1))
            other u hu ne au (inr f) = not_open p vw u f au
        go (inl w) = low (first_spec not_found p.gamma (assigned vw) γ_few)
          where
            l : ℕ
            l = found (assigned vw)

            low : ((l ≡ not_found) × ((i : ℕ) → i < p.gamma → assigned vw i ≡ false)) ⊎ ((l < p.gamma) × (assigned vw l ≡ true)) → Open p vw
            low (inl m) = absurd (never a (m.1 v h))
            low (inr m) =
                names_open_lem l m.0 m.1 (last ∙ rw (eq-eqb o not_found w.0, ne_eqb l not_found (λ x. omega (arith, m.0, x, γ_few)))) (λ u hu ne au. not_open p vw u (w.1 u hu) au)
