-- The search for the one with the greatest key: it passes, and no key of those that pass is greater. By what one number more adds.
-- Assumes nothing.
use mathlib.Core.Path.{◌≡◌, refl, ap, ◌∙◌}
use mathlib.Core.Logic.{◌⊎◌, inl, inr}
use Prim.Native.Nat.{ℕ, zero, suc, ◌≤◌, ◌<◌}
use native.Mathlib.Omega.{arith}
use native.Mathlib.Decide.{ℕ_discrete, dec_lt}
use mathlib.Core.Bool.{Bool, true, false, ◌&&◌, ◌||◌, cond}
use lib.Dec.{eqb, ltb}
use borrow.Author.Tests.{eq-eqb, ne_eqb, lt-ltb, le-ltb}
use Rattle.lists.specs.Below.{most_below}
use Rattle.lists.proofs.Tests.{never}

-- it passes and no key of those that pass is greater; where it is `other`, none passes
pub most_spec : (key : ℕ → ℕ) (o n : ℕ) (f : ℕ → Bool) → n ≤ o
    → ((most_below key o n f ≡ o) × ((i : ℕ) → i < n → f i ≡ false))
    ⊎ ((most_below key o n f < n) × (f (most_below key o n f) ≡ true) × ((i : ℕ) → i < n → f i ≡ true → key i ≤ key (most_below key o n f)))
unfolding most_below
most_spec key o zero f h = inl (refl, λ i k. absurd (omega arith))
most_spec key o (suc n) f h = go (most_below key o n f) (f n) refl (most_spec key o n f (omega arith))
  where
    go : (m : ℕ) (t : Bool) → f n ≡ t → ((m ≡ o) × ((i : ℕ) → i < n → f i ≡ false)) ⊎ ((m < n) × (f m ≡ true) × ((i : ℕ) → i < n → f i ≡ true → key i ≤ key m))
        → ((cond (t && (eqb m o || ltb (key m) (key n))) n m ≡ o) × ((i : ℕ) → i < suc n → f i ≡ false))
        ⊎ ((cond (t && (eqb m o || ltb (key m) (key n))) n m < suc n) × (f (cond (t && (eqb m o || ltb (key m) (key n))) n m) ≡ true)
        × ((i : ℕ) → i < suc n → f i ≡ true → key i ≤ key (cond (t && (eqb m o || ltb (key m) (key n))) n m)))
    go m false k (inl w) = inl (w.0, λ i l. all i l (ℕ_discrete i n))
      where
        all : (i : ℕ) → i < suc n → Dec (i ≡ n) → f i ≡ false
        all i l (yes e) = ap f e ∙ k
        all i l (no e) = w.1 i (omega arith)
    go m false k (inr w) = inr (omega arith, w.1, λ i l e. all i l e (ℕ_discrete i n))
      where
        all : (i : ℕ) → i < suc n → f i ≡ true → Dec (i ≡ n) → key i ≤ key m
        all i l e (yes d) = absurd (never e (ap f d ∙ k))
        all i l e (no d) = w.2 i (omega arith) e
    go m true k (inl w) = rw (eq-eqb m o w.0) (inr (omega arith, k, λ i l e. all i l e (ℕ_discrete i n)))
      where
        all : (i : ℕ) → i < suc n → f i ≡ true → Dec (i ≡ n) → key i ≤ key n
        all i l e (yes d) = rw d (omega arith)
        all i l e (no d) = absurd (never e (w.1 i (omega arith)))
    go m true k (inr w) = rw (ne_eqb m o (omega arith)) (pick (dec_lt (key m) (key n)))
      where
        all : (x : ℕ) → key m ≤ key x → key n ≤ key x → (i : ℕ) → i < suc n → f i ≡ true → Dec (i ≡ n) → key i ≤ key x
        all x a b i l e (yes d) = rw d b
        all x a b i l e (no d) = let y = w.2 i (omega arith) e in omega arith

        pick : Dec (key m < key n) → ((cond (ltb (key m) (key n)) n m ≡ o) × ((i : ℕ) → i < suc n → f i ≡ false))
            ⊎ ((cond (ltb (key m) (key n)) n m < suc n) × (f (cond (ltb (key m) (key n)) n m) ≡ true)
            × ((i : ℕ) → i < suc n → f i ≡ true → key i ≤ key (cond (ltb (key m) (key n)) n m)))
        pick (yes a) = rw (lt-ltb (key m) (key n) a) (inr (omega arith, k, λ i l e. all n (omega arith) (omega arith) i l e (ℕ_discrete i n)))
        pick (no a) = rw (le-ltb (key m) (key n) (omega arith)) (inr (omega arith, w.1, λ i l e. all m (omega arith) (omega arith) i l e (ℕ_discrete i n)))
