-- Sums over the numbers below n: where every term is 0, where none is larger, where one term changes, two sums together, and sums compared with counts.
-- Assumes nothing.
use Prim.Native.Nat.{ℕ, zero, suc, ◌+◌, ◌-◌, ◌*◌, ◌≤◌, ◌<◌}
use mathlib.Core.Path.{◌≡◌, ap, refl}
use mathlib.Core.Logic.{◌⊎◌, inl, inr}
use mathlib.Core.Bool.{Bool, true, false, cond}
use native.Mathlib.Decide.{ℕ_discrete}
use native.Mathlib.Omega.{arith}
use lib.Dec.{eqb}
use borrow.Author.Tests.{eq-eqb, ne_eqb}
use Rattle.lists.specs.Below.{count_below, sum_below}
use Rattle.lists.proofs.Tests.{so}

pub sum_zero : (n : ℕ) (f : ℕ → ℕ) → ((i : ℕ) → i < n → f i ≡ 0) → sum_below n f ≡ 0
unfolding sum_below
sum_zero zero f h = omega arith
sum_zero (suc n) f h = omega (arith, sum_zero n f (λ i k. h i (omega arith)), h n (omega arith))

pub sum_le : (n : ℕ) (f g : ℕ → ℕ) → ((i : ℕ) → i < n → f i ≤ g i) → sum_below n f ≤ sum_below n g
unfolding sum_below
sum_le zero f g h = omega arith
sum_le (suc n) f g h = omega (arith, sum_le n f g (λ i k. h i (omega arith)), h n (omega arith))

pub sum_same : (n : ℕ) (f g : ℕ → ℕ) → ((i : ℕ) → i < n → f i ≡ g i) → sum_below n f ≡ sum_below n g
unfolding sum_below
sum_same zero f g h = omega arith
sum_same (suc n) f g h = omega (arith, sum_same n f g (λ i k. h i (omega arith)), h n (omega arith))

-- but for term v the same
pub sum_but : (n : ℕ) (f g : ℕ → ℕ) (v : ℕ) → v < n → ((i : ℕ) → i < n → (i ≡ v → ⊥) → f i ≡ g i) → sum_below n g + f v ≡ sum_below n f + g v
unfolding sum_below
sum_but zero f g v h same = absurd (omega arith)
sum_but (suc n) f g v h same = go (ℕ_discrete v n) (λ k. sum_but n f g v k (λ i a. same i (omega arith)))
  where
    go : Dec (v ≡ n) → (v < n → sum_below n g + f v ≡ sum_below n f + g v) → sum_below n g + g n + f v ≡ sum_below n f + f n + g v
    go (yes e) below = omega (arith, ap f e, ap g e, sum_same n f g (λ i k. same i (omega arith) (omega arith)))
    go (no e) below = omega (arith, below (omega arith), same n (omega arith) (λ x. e (omega arith)))

pub sum_add : (n : ℕ) (f g : ℕ → ℕ) → sum_below n (λ i. f i + g i) ≡ sum_below n f + sum_below n g
unfolding sum_below
sum_add zero f g = refl
sum_add (suc n) f g = omega (arith, sum_add n f g)

-- each that passes has e at least
pub count_sum : (n : ℕ) (h : ℕ → Bool) (e : ℕ) (f : ℕ → ℕ) → ((i : ℕ) → i < n → h i ≡ true → e ≤ f i) → count_below n h * e ≤ sum_below n f
unfolding count_below sum_below
count_sum zero h e f a = omega arith
count_sum (suc n) h e f a = go (so (h n)) (count_sum n h e f (λ i k. a i (omega arith)))
  where
    go : (h n ≡ true) ⊎ (h n ≡ false) → count_below n h * e ≤ sum_below n f → (count_below n h + cond (h n) 1 0) * e ≤ sum_below n f + f n
    go (inl t) below = rw t (omega (arith, below, a n (omega arith) t))
    go (inr t) below = rw t (omega (arith, below))

-- one number among those below n is m at most once
sum_one : (n m : ℕ) → (m < n → sum_below n (λ i. cond (eqb m i) 1 0) ≤ 1) × (n ≤ m → sum_below n (λ i. cond (eqb m i) 1 0) ≡ 0)
unfolding sum_below
sum_one zero m = (λ h. omega arith, λ h. refl)
sum_one (suc n) m = go (ℕ_discrete m n) (sum_one n m)
  where
    go : Dec (m ≡ n) → (m < n → sum_below n (λ i. cond (eqb m i) 1 0) ≤ 1) × (n ≤ m → sum_below n (λ i. cond (eqb m i) 1 0) ≡ 0)
        → (m < suc n → sum_below n (λ i. cond (eqb m i) 1 0) + cond (eqb m n) 1 0 ≤ 1) × (suc n ≤ m → sum_below n (λ i. cond (eqb m i) 1 0) + cond (eqb m n) 1 0 ≡ 0)
    go (yes e) w = (λ h. rw (eq-eqb m n e) (omega (arith, w.1 (omega arith))), λ h. absurd (omega arith))
    go (no e) w = (λ h. rw (ne_eqb m n e) (omega (arith, w.0 (omega arith))), λ h. rw (ne_eqb m n e) (omega (arith, w.1 (omega arith))))

pub sum_most : (n m : ℕ) → sum_below n (λ i. cond (eqb m i) 1 0) ≤ 1
sum_most n m = go (ℕ_discrete (n - m) 0)
  where
    go : Dec (n - m ≡ 0) → sum_below n (λ i. cond (eqb m i) 1 0) ≤ 1
    go (yes e) = omega (arith, (sum_one n m).1 (omega arith))
    go (no e) = (sum_one n m).0 (omega arith)
