-- The tests on the parameters are the rules' `allowed`; and what parameters in their ranges bound.
-- Assumes nothing.
use mathlib.Core.Path.{◌≡◌, refl}
use mathlib.Core.Bool.{Bool, true, false, ◌&&◌, and_assoc, and-true}
use mathlib.Core.List.{List, [], ◌∷◌}
use Prim.Native.Nat.{ℕ, ◌+◌, ◌*◌, ◌≤◌}
use native.Mathlib.Nat.{mul-le-mul, one-le-mul}
use Rattle.lists.specs.Below.{all_true}
use Rattle.lists.proofs.Tests.{and_left, and_right, truths}
use Rattle.rules.specs.declared.Params.{Params}
use Rattle.rules.specs.Parameters.{allowed, within}
use Rattle.rules.proofs.Sizes.{within_true}
use Rattle.chip_sizes.specs.Checks.{in_ranges, tied}

pub allowed_is : (p : Params) → in_ranges p && tied p ≡ allowed p
unfolding in_ranges tied allowed all_true
allowed_is p = simp (and_assoc, and-true)

-- what the products of parameters in their ranges are
pub record Ranged (p : Params) : Type 0 where
  pub alpha : p.alpha ≤ 16
  pub regions : 1 ≤ p.mu
  pub mu_high : p.mu ≤ 1024
  pub clusters : p.C ≤ 1048576
  pub frames_low : 1 ≤ p.beta * p.d
  pub frames_high : p.beta * p.d ≤ 256
  pub pages_high : p.alpha * (p.beta * p.d) ≤ 4096
  pub places_low : 1 ≤ p.gamma * (p.beta * p.d)
  pub places_high : p.gamma * (p.beta * p.d) ≤ 4096

-- the tests in their order, as a list
listed : (a b c d e f g h i : Bool) → a && b && c && d && e && f && g && h && i ≡ all_true (a ∷ b ∷ c ∷ d ∷ e ∷ f ∷ g ∷ h ∷ i ∷ [])
unfolding all_true
listed a b c d e f g h i = simp (and_assoc, and-true)

pub ranged : (p : Params) → in_ranges p ≡ true → Ranged p
unfolding in_ranges
ranged p h =
    let t = truths _ (rw listed at h) in
    let a = within_true 1 16 p.alpha t.1.0 in
    let b = within_true 1 16 p.beta t.1.1.0 in
    let e = within_true 1 16 p.d t.1.1.1.0 in
    let m = within_true 1 1024 p.mu t.1.1.1.1.0 in
    let g = within_true 1 16 p.gamma t.1.1.1.1.1.0 in
    let c = within_true 1 1048576 p.C t.1.1.1.1.1.1.0 in
    let f : p.beta * p.d ≤ 16 * 16 = mul-le-mul b.1 e.1 in
    let l : 1 ≤ p.beta * p.d = one-le-mul b.0 e.0 in
    record {
      alpha = a.1;
      regions = m.0;
      mu_high = m.1;
      clusters = c.1;
      frames_low = l;
      frames_high = f;
      pages_high = mul-le-mul a.1 f;
      places_low = one-le-mul g.0 l;
      places_high = mul-le-mul g.1 f;
    }
