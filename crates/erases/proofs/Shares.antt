-- L and G over the allowed parameters: a region has at most C/μ rounded up of the clusters, so G is not 0; and G frames are left of a block of which at most a γ-th
-- of L frames are kept.
-- Assumes nothing.
use Prim.Native.Nat.{ℕ, suc, ◌+◌, ◌-◌, ◌*◌, ◌/◌, ◌≤◌, ◌<◌}
use mathlib.Core.Path.{◌≡◌, ap, sym, ◌∙◌}
use native.Mathlib.Nat.{div-lt_iff_lt-mul, le-div_iff_mul-le, lt-div-mul-add, one-le-mul}
use native.Mathlib.Omega.{arith}
use lib.Dec.{eqb}
use borrow.Author.Tests.{eqb-true}
use Rattle.lists.specs.Below.{count_below}
use Rattle.lists.proofs.Parts.{rejoin}
use Rattle.lists.proofs.Searches.{pigeon}
use Rattle.rules.specs.declared.Params.{Params}
use Rattle.rules.specs.Parameters.{frames, per_region}
use Rattle.rules.specs.Numbers.{region_of}
use Rattle.rules.proofs.Sizes.{Sizes}
use Rattle.erases.specs.Erases.{clusters_in, rounded_up, spare_share}

-- n/k rounded up is the least number whose k-fold is n or more
rounded_least : (n k m : ℕ) → 0 < k → n ≤ k * m → rounded_up n k ≤ m
unfolding rounded_up
rounded_least n k m h e =
    let w : rounded_up n k < suc m = (div-lt_iff_lt-mul h).1 (omega arith) in
    omega arith

rounded_some : (n k : ℕ) → 0 < k → 0 < n → 0 < rounded_up n k
unfolding rounded_up
rounded_some n k h e = (le-div_iff_mul-le h).1 (omega arith)

-- it and m are together at most f, where n and the k-fold of m are together at most the k-fold of f
rounded_left : (n k f m : ℕ) → 0 < k → m ≤ f → n + k * m ≤ k * f → rounded_up n k + m ≤ f
rounded_left n k f m h low few =
    let e : f ≡ f - m + m = omega arith in
    omega (arith, rounded_least n k (f - m) h (omega (arith, ap (λ (x : ℕ). k * x) e)))

module _ (p : Params) (z : Sizes p) (r : ℕ) where
  -- two clusters of the region have different quotients by μ
  few_clusters : count_below p.C (λ c. eqb (region_of p c) r) ≤ per_region p
  unfolding per_region
  few_clusters =
      pigeon p.C (per_region p) (λ c. eqb (region_of p c) r) (λ c. c / p.mu)
      (λ c h e. (div-lt_iff_lt-mul z.regions).1 (omega (arith, lt-div-mul-add {a = p.C + (p.mu - 1)} z.regions, z.regions)))
      (λ c d h k e f x. rejoin p.mu c d x (eqb-true _ _ e ∙ sym (eqb-true _ _ f)))

  some_spare : 0 < p.gamma * frames p - clusters_in p r
  unfolding clusters_in
  some_spare = omega (arith, few_clusters, z.spread, one-le-mul z.vblocks z.some)

  pub share_some : 0 < spare_share p r
  unfolding spare_share
  share_some = rounded_some _ p.gamma z.vblocks (omega (arith, some_spare))

  -- a block has room for m copies and G frames more
  pub share_left : (m : ℕ) → m ≤ frames p → p.gamma * m ≤ clusters_in p r → spare_share p r + m ≤ frames p
  unfolding spare_share
  share_left m h few = rounded_left _ p.gamma (frames p) m z.vblocks h (omega (arith, some_spare))
