-- Which plan a write has, by cases, with what the choice says of the region: the open block has room; or no block has, and a virtual block lacks a physical one; or all have one, and the
-- victim, which has the fewest valid frames, has room for them.
-- Assumes nothing.
use mathlib.Core.Path.{◌≡◌, refl, sym}
use mathlib.Core.Logic.{◌⊎◌, inl, inr}
use Prim.Native.Nat.{ℕ, ◌≤◌, ◌<◌}
use native.Mathlib.Omega.{arith}
use mathlib.Core.Bool.{true, false, not, false≢true}
use lib.Dec.{eqb}
use borrow.Author.Tests.{eqb-false, eqb-true, not-false, not-true}
use lib.ListN.{length}
use Rattle.lists.proofs.Searches.{first_spec, least_spec}
use Rattle.lists.proofs.Tests.{so}
use Rattle.rules.specs.declared.Params.{Params}
use Rattle.rules.specs.Parameters.{frames}
use Rattle.rules.specs.Numbers.{vblock_of}
use Rattle.rules.specs.Tables.{none}
use Rattle.rules.specs.Pages.{filled}
use Rattle.rules.specs.Regions.{View, assigned, valid_frames}
use Rattle.rules.specs.Write.{Plan, continues, has_room, lowest_unassigned, opens, plan_of, reclaims, victim}
use Rattle.rules.proofs.RegionFacts.{Neat}
use Rattle.rules.proofs.Sizes.{Sizes}
use Rattle.rules.proofs.Victims.{victim_room}

pub data Case (p : Params) (vw : View) (pl : Plan) : Type 0 where
  goes_on : has_room p vw ≡ true → pl ≡ continues (vblock_of p vw.last_seg) (filled p (vw.body (vblock_of p vw.last_seg))) → Case p vw pl
  takes : has_room p vw ≡ false → (v : ℕ) → v < p.gamma → assigned vw v ≡ false → pl ≡ opens v → Case p vw pl
  renews : has_room p vw ≡ false → ((u : ℕ) → u < p.gamma → assigned vw u ≡ true) → (v : ℕ) → v < p.gamma → length (valid_frames p vw v) < frames p → pl ≡ reclaims v → Case p vw pl

module _ (p : Params) (z : Sizes p) (r : ℕ) (vw : View) (nt : Neat p r vw) where
  γ_few : p.gamma ≤ none
  γ_few = omega (arith, z.gamma_high)

  every : lowest_unassigned p vw ≡ none → (u : ℕ) → u < p.gamma → assigned vw u ≡ true
  unfolding lowest_unassigned
  every e u k = go (first_spec none p.gamma (λ v. not (assigned vw v)) γ_few)
    where
      go : ((lowest_unassigned p vw ≡ none) × ((i : ℕ) → i < p.gamma → not (assigned vw i) ≡ false))
          ⊎ ((lowest_unassigned p vw < p.gamma) × (not (assigned vw (lowest_unassigned p vw)) ≡ true)) → assigned vw u ≡ true
      go (inl w) = not-false _ (w.1 u k)
      go (inr w) = absurd (omega (arith, γ_few, e, w.0))

  lacking : (lowest_unassigned p vw ≡ none → ⊥) → (lowest_unassigned p vw < p.gamma) × (assigned vw (lowest_unassigned p vw) ≡ false)
  unfolding lowest_unassigned
  lacking ne = go (first_spec none p.gamma (λ v. not (assigned vw v)) γ_few)
    where
      go : ((lowest_unassigned p vw ≡ none) × ((i : ℕ) → i < p.gamma → not (assigned vw i) ≡ false))
          ⊎ ((lowest_unassigned p vw < p.gamma) × (not (assigned vw (lowest_unassigned p vw)) ≡ true)) → (lowest_unassigned p vw < p.gamma) × (assigned vw (lowest_unassigned p vw) ≡ false)
      go (inl w) = absurd (ne w.0)
      go (inr w) = (w.0, not-true _ w.1)

  fewest : has_room p vw ≡ false → lowest_unassigned p vw ≡ none → (victim p vw < p.gamma) × (length (valid_frames p vw (victim p vw)) < frames p)
  unfolding victim
  fewest h e = go (least_spec (λ v. length (valid_frames p vw v)) none p.gamma (λ v. true) γ_few)
    where
      go : ((victim p vw ≡ none) × ((i : ℕ) → i < p.gamma → true ≡ false))
          ⊎ ((victim p vw < p.gamma) × (true ≡ true) × ((i : ℕ) → i < p.gamma → true ≡ true → length (valid_frames p vw (victim p vw)) ≤ length (valid_frames p vw i)))
          → (victim p vw < p.gamma) × (length (valid_frames p vw (victim p vw)) < frames p)
      go (inl w) = absurd (false≢true (sym (w.1 0 z.vblocks)))
      go (inr w) = (w.0, victim_room p z vw r nt h (every e) (victim p vw) w.0 (λ u k. w.2 u k refl))

  pub plan_case : Case p vw (plan_of p vw)
  unfolding plan_of
  plan_case = go (so (has_room p vw)) (so (eqb (lowest_unassigned p vw) none))
    where
      go : (has_room p vw ≡ true) ⊎ (has_room p vw ≡ false) → (eqb (lowest_unassigned p vw) none ≡ true) ⊎ (eqb (lowest_unassigned p vw) none ≡ false) → Case p vw (plan_of p vw)
      go (inl h) s = goes_on h (rw h)
      go (inr h) (inl e) = let w = fewest h (eqb-true _ _ e) in renews h (every (eqb-true _ _ e)) (victim p vw) w.0 w.1 (rw (h, e))
      go (inr h) (inr e) = let w = lacking (eqb-false _ _ e) in takes h (lowest_unassigned p vw) w.0 w.1 (rw (h, e))
