-- What a reclaim copies is at most a γ-th of L: every virtual block has at least as many valid frames as the victim, and no two valid frames of the region hold the
-- same cluster, so there is an injection from these frames to the region's clusters.
-- Assumes nothing.
use Prim.Native.Nat.{ℕ, zero, suc, ◌*◌, ◌/◌, ◌%◌, ◌≤◌, ◌<◌}
use mathlib.Core.Path.{◌≡◌, refl, sym, ap₂, ◌∙◌}
use mathlib.Core.Bool.{true, false}
use native.Mathlib.Nat.{div-lt_iff_lt-mul, mod-lt}
use native.Mathlib.Omega.{arith}
use lib.Dec.{eqb}
use lib.ListN.{get_or, length}
use borrow.Author.Tests.{eq-eqb}
use Rattle.lists.specs.Below.{count_below}
use Rattle.lists.proofs.Parts.{rejoin}
use Rattle.lists.proofs.Ranks.{fewer, keep_length, keep_nth}
use Rattle.lists.proofs.Tests.{count_is}
use Rattle.rules.specs.declared.Params.{Params}
use Rattle.rules.specs.Parameters.{frames}
use Rattle.rules.specs.Numbers.{region_of}
use Rattle.rules.specs.Pages.{frame, held}
use Rattle.rules.specs.Regions.{View, assigned, valid, valid_frames}
use Rattle.rules.specs.Write.{has_room}
use Rattle.rules.proofs.RegionFacts.{GoodFrame, Neat}
use Rattle.rules.proofs.Sizes.{Sizes}
use Rattle.rules.proofs.Victims.{good_at, valid_in, valid_one}
use Rattle.erases.specs.Erases.{clusters_in}

module _ (p : Params) (z : Sizes p) (r : ℕ) (vw : View) (neat : Neat p r vw) (full : has_room p vw ≡ false) (every : (u : ℕ) → u < p.gamma → assigned vw u ≡ true)
    (m : ℕ) (some : 0 < m) (least : (u : ℕ) → u < p.gamma → m ≤ length (valid_frames p vw u)) where
  -- of the first m valid frames of each virtual block, numbered through: the frame, and the cluster that it holds
  frame_at : ℕ → ℕ
  frame_at i = get_or (valid_frames p vw (i / m)) (i % m) 0

  cluster_at : ℕ → ℕ
  cluster_at i = held p (frame p (vw.body (i / m)) (frame_at i))

  block_low_lem : (i : ℕ) → i < p.gamma * m → i / m < p.gamma
  block_low_lem i h = (div-lt_iff_lt-mul some).1 h

  nth : (i : ℕ) → i < p.gamma * m → (frame_at i < frames p) × (valid p vw (i / m) (frame_at i) ≡ true) × (count_below (frame_at i) (valid p vw (i / m)) ≡ i % m)
  unfolding frame_at valid_frames
  nth i h = keep_nth (frames p) (valid p vw (i / m)) (i % m) 0 (omega (arith, least (i / m) (block_low_lem i h), keep_length (frames p) (valid p vw (i / m)), mod-lt i some))

  good : (i : ℕ) → i < p.gamma * m → GoodFrame p r (i / m) (frame p (vw.body (i / m)) (frame_at i))
  good i h = good_at p z vw r neat full every (i / m) (frame_at i) (block_low_lem i h) (nth i h).0

  same : (i j : ℕ) → i < p.gamma * m → j < p.gamma * m → cluster_at i ≡ cluster_at j → i ≡ j
  unfolding cluster_at
  same i j h k e =
      let a = nth i h in
      let c = nth j k in
      let one = valid_one p z vw (i / m) (frame_at i) (j / m) (frame_at j) a.0 c.0 (valid_in p vw (i / m) (frame_at i) a.1) (valid_in p vw (j / m) (frame_at j) c.1) e in
      rejoin m i j one.0 (sym a.2 ∙ ap₂ (λ (f u : ℕ). count_below f (valid p vw u)) one.1 one.0 ∙ c.2)

  some_few : p.gamma * m ≤ clusters_in p r
  unfolding clusters_in cluster_at
  some_few =
      omega (
        arith,
        fewer (p.gamma * m) p.C (λ i. true) (λ c. eqb (region_of p c) r) cluster_at (λ i h e. ((good i h).low, eq-eqb _ _ (good i h).mine)) (λ i j h k e f. same i j h k),
        count_is (p.gamma * m) (p.gamma * m) (λ i. true) (omega arith) (λ i h. refl) (λ i h k. absurd (omega arith)),
      )

-- the m of a victim: no virtual block has fewer valid frames
pub copied_few : (p : Params) → Sizes p → (r : ℕ) (vw : View) → Neat p r vw → has_room p vw ≡ false → ((u : ℕ) → u < p.gamma → assigned vw u ≡ true)
    → (m : ℕ) → ((u : ℕ) → u < p.gamma → m ≤ length (valid_frames p vw u)) → p.gamma * m ≤ clusters_in p r
copied_few p z r vw neat full every zero least = omega arith
copied_few p z r vw neat full every (suc m) least = some_few p z r vw neat full every (suc m) (omega arith) least
