-- The valid frames of a region's blocks are distinct clusters, so the victim has fewer than a block's frames.
-- Assumes nothing.
use mathlib.Core.Path.{◌≡◌, refl, sym, ap, ap₂, ◌∙◌}
use mathlib.Core.Logic.{◌⊎◌, inl, inr}
use Prim.Native.Nat.{ℕ, ◌+◌, ◌-◌, ◌*◌, ◌/◌, ◌%◌, ◌≤◌, ◌<◌}
use native.Mathlib.Nat.{div-lt_iff_lt-mul, lt-div-mul-add, mod-lt}
use native.Mathlib.Omega.{arith}
use native.Mathlib.Decide.{dec_lt}
use mathlib.Core.Bool.{true, false, false≢true}
use lib.Dec.{eqb}
use borrow.Author.Tests.{eqb-true, eq-eqb}
use lib.ListN.{length}
use Rattle.lists.specs.Below.{count_below}
use Rattle.lists.proofs.Parts.{next, rejoin}
use Rattle.lists.proofs.Ranks.{count_full, keep_length}
use Rattle.lists.proofs.Searches.{least_lowest, least_spec, pigeon}
use Rattle.lists.proofs.Tests.{and_intro, and_left, and_right, count_is}
use Rattle.rules.specs.declared.Params.{Params}
use Rattle.rules.specs.Parameters.{frames, per_region}
use Rattle.rules.specs.Numbers.{place_of, segment_of, vblock_of}
use Rattle.rules.specs.Tables.{none}
use Rattle.rules.specs.Pages.{frame, held, last_in, programmed}
use Rattle.rules.specs.Regions.{View, assigned, valid, valid_frames}
use Rattle.rules.specs.Write.{has_room, victim}
use Rattle.rules.proofs.Continues.{frames_pos}
use Rattle.rules.proofs.Frames.{seg_place, seg_vblock}
use Rattle.rules.proofs.Opens.{all_full}
use Rattle.rules.proofs.RegionFacts.{GoodFrame, Neat}
use Rattle.rules.proofs.Sizes.{Sizes}

pub record Valid (p : Params) (vw : View) (v f : ℕ) : Type 0 where
  pub written : programmed p (frame p (vw.body v) f) ≡ true
  pub names : vw.seg_of (held p (frame p (vw.body v) f)) ≡ segment_of p v f
  pub last : last_in p (vw.body v) (f / p.beta) (held p (frame p (vw.body v) f)) ≡ f

pub valid_in : (p : Params) (vw : View) (v f : ℕ) → valid p vw v f ≡ true → Valid p vw v f
unfolding valid
valid_in p vw v f h =
    let fr = frame p (vw.body v) f in
    let k = and_right (programmed p fr) h in
    record {
      written = and_left (programmed p fr) _ h;
      names = eqb-true _ _ (and_left (eqb (vw.seg_of (held p fr)) (segment_of p v f)) _ k);
      last = eqb-true _ _
          (and_right (eqb (vw.seg_of (held p fr)) (segment_of p v f)) k);
    }

pub valid_out : (p : Params) (vw : View) (v f : ℕ) → Valid p vw v f → valid p vw v f ≡ true
unfolding valid
valid_out p vw v f w = and_intro w.written (and_intro (eq-eqb _ _ w.names) (eq-eqb _ _ w.last))

module _ (p : Params) (z : Sizes p) (vw : View) where
  -- a cluster has one valid frame
  pub valid_one : (v f u g : ℕ) → f < frames p → g < frames p → Valid p vw v f → Valid p vw u g → held p (frame p (vw.body v) f) ≡ held p (frame p (vw.body u) g) → (v ≡ u) × (f ≡ g)
  valid_one v f u g hf hg a b e =
      let s : segment_of p v f ≡ segment_of p u g = sym a.names ∙ ap vw.seg_of e ∙ b.names in
      let k : v ≡ u = sym (seg_vblock p z v f hf) ∙ ap (vblock_of p) s ∙ seg_vblock p z u g hg in
      let l : f / p.beta ≡ g / p.beta = sym (seg_place p z v f hf) ∙ ap (place_of p) s ∙ seg_place p z u g hg in
      (k, sym a.last ∙ ap₂ (λ x y. last_in p (vw.body v) x y) l e ∙ ap (λ x. last_in p (vw.body x) (g / p.beta) (held p (frame p (vw.body u) g))) k ∙ b.last)

  module _ (r : ℕ) (neat : Neat p r vw) (no_room_lem : has_room p vw ≡ false) (every : (u : ℕ) → u < p.gamma → assigned vw u ≡ true) where
    pub good_at : (u f : ℕ) → u < p.gamma → f < frames p → GoodFrame p r u (frame p (vw.body u) f)
    good_at u f h k = (neat.blocks u h (every u h)).1.front f (rw (all_full p z r vw neat no_room_lem u h (every u h)) k) k

    -- the frames of the region, numbered
    number : ℕ → ℕ
    number i = held p (frame p (vw.body (i / frames p)) (i % frames p)) / p.mu

    number_low : (i : ℕ) → i < p.gamma * frames p → number i < per_region p
    unfolding number per_region
    number_low i h =
        let g = good_at (i / frames p) (i % frames p) ((div-lt_iff_lt-mul (frames_pos p z)).1 h) (mod-lt i (frames_pos p z)) in
        (div-lt_iff_lt-mul z.regions).1 (omega (arith, g.low, lt-div-mul-add {a = p.C + (p.mu - 1)} z.regions, z.regions))

    pub victim_room : (v : ℕ) → v < p.gamma → ((u : ℕ) → u < p.gamma → length (valid_frames p vw v) ≤ length (valid_frames p vw u)) → length (valid_frames p vw v) < frames p
    unfolding valid_frames number
    victim_room v h least = go (dec_lt (length (valid_frames p vw v)) (frames p))
      where
        go : Dec (length (valid_frames p vw v) < frames p) → length (valid_frames p vw v) < frames p
        go (yes k) = k
        go (no k) = absurd (omega (arith, few, all, z.spread, next (frames p) 0 p.gamma z.vblocks, frames_pos p z))
          where
            each : (u f : ℕ) → u < p.gamma → f < frames p → Valid p vw u f
            each u f a c = valid_in p vw u f (count_full (frames p) (valid p vw u) (rw (← keep_length) (omega (arith, least u a))) f c)

            at : (i : ℕ) → i < p.gamma * frames p → Valid p vw (i / frames p) (i % frames p)
            at i a = each (i / frames p) (i % frames p) ((div-lt_iff_lt-mul (frames_pos p z)).1 a) (mod-lt i (frames_pos p z))

            same : (i j : ℕ) → i < p.gamma * frames p → j < p.gamma * frames p → number i ≡ number j → i ≡ j
            same i j a c e =
                let m = held p (frame p (vw.body (i / frames p)) (i % frames p)) in
                let n = held p (frame p (vw.body (j / frames p)) (j % frames p)) in
                let gi = good_at (i / frames p) (i % frames p) ((div-lt_iff_lt-mul (frames_pos p z)).1 a) (mod-lt i (frames_pos p z)) in
                let gj = good_at (j / frames p) (j % frames p) ((div-lt_iff_lt-mul (frames_pos p z)).1 c) (mod-lt j (frames_pos p z)) in
                let one = valid_one (i / frames p) (i % frames p) (j / frames p) (j % frames p) (mod-lt i (frames_pos p z)) (mod-lt j (frames_pos p z)) (at i a) (at j c)
                (rejoin p.mu m n e (gi.mine ∙ sym gj.mine)) in
                rejoin (frames p) i j one.0 one.1

            few : count_below (p.gamma * frames p) (λ i. true) ≤ per_region p
            few = pigeon (p.gamma * frames p) (per_region p) (λ i. true) number (λ i a t. number_low i a) (λ i j a c t s. same i j a c)

            all : count_below (p.gamma * frames p) (λ i. true) ≡ p.gamma * frames p
            all = count_is (p.gamma * frames p) (p.gamma * frames p) (λ i. true) (omega arith) (λ i a. refl) (λ i a c. absurd (omega arith))

-- "The victim is the virtual block with fewest valid frames, the lowest on a tie"
pub victim_fewest : (p : Params) → Sizes p → (vw : View) (u : ℕ) → u < p.gamma → length (valid_frames p vw (victim p vw)) ≤ length (valid_frames p vw u)
unfolding victim
victim_fewest p z vw u h = go (least_spec (λ v. length (valid_frames p vw v)) none p.gamma (λ v. true) (omega (arith, z.gamma_high)))
  where
    go : ((victim p vw ≡ none) × ((i : ℕ) → i < p.gamma → true ≡ false))
        ⊎ ((victim p vw < p.gamma) × (true ≡ true) × ((i : ℕ) → i < p.gamma → true ≡ true → length (valid_frames p vw (victim p vw)) ≤ length (valid_frames p vw i)))
        → length (valid_frames p vw (victim p vw)) ≤ length (valid_frames p vw u)
    go (inl w) = absurd (false≢true (sym (w.1 u h)))
    go (inr w) = w.2 u h refl

pub victim_lowest : (p : Params) → Sizes p → (vw : View) (u : ℕ) → u < p.gamma → u < victim p vw → length (valid_frames p vw (victim p vw)) < length (valid_frames p vw u)
unfolding victim
victim_lowest p z vw u h k = least_lowest (λ v. length (valid_frames p vw v)) none p.gamma (λ v. true) (omega (arith, z.gamma_high)) u h k refl
