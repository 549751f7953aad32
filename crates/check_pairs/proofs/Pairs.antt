-- The rule of pairs, by counts: at most one full block and at most one that is not full name a virtual block.
-- Assumes nothing.
use mathlib.Core.Path.{◌≡◌}
use mathlib.Core.Logic.{◌⊎◌, inl, inr}
use mathlib.Core.Bool.{true, false, ◌&&◌, ◌||◌}
use mathlib.Core.List.{List}
use Prim.Native.Nat.{ℕ, ◌+◌, ◌≤◌, ◌<◌}
use native.Mathlib.Decide.{dec_lt, ℕ_discrete}
use native.Mathlib.Omega.{arith}
use lib.Dec.{eqb, leb}
use borrow.Author.Tests.{eq-eqb, le-leb, lt-leb, ne_eqb}
use Rattle.lists.specs.Below.{all_below, count_below}
use Rattle.lists.proofs.Counts.{count_split}
use Rattle.lists.proofs.Tests.{all_below_intro, and_intro, or_right}
use Rattle.loops.proofs.Below.{all_fails}
use Rattle.rules.specs.declared.Params.{Params}
use Rattle.rules.specs.Pages.{block, is_full}
use Rattle.rules.specs.Start.{names, names_full, names_open, pair_rule}

-- k of two kinds, m and n
one_each : (k m n : ℕ) → m + n ≡ k → m ≤ 1 → n ≤ 1 → leb k 1 || (eqb k 2 && eqb m 1) ≡ true
one_each k m n e a b = go (dec_lt k 2)
  where
    go : Dec (k < 2) → leb k 1 || (eqb k 2 && eqb m 1) ≡ true
    go (yes h) = rw (le-leb k 1 (omega arith))
    go (no h) = or_right (leb k 1) (and_intro (eq-eqb k 2 (omega arith)) (eq-eqb m 1 (omega arith)))

two_of_one : (k m n : ℕ) → m + n ≡ k → (2 ≤ m) ⊎ (2 ≤ n) → leb k 1 || (eqb k 2 && eqb m 1) ≡ false
two_of_one k m n e two = rw (lt-leb k 1 (most two)) (go two (ℕ_discrete k 2))
  where
    most : (2 ≤ m) ⊎ (2 ≤ n) → 1 < k
    most (inl h) = omega arith
    most (inr h) = omega arith

    go : (2 ≤ m) ⊎ (2 ≤ n) → Dec (k ≡ 2) → eqb k 2 && eqb m 1 ≡ false
    go h (no d) = rw (ne_eqb k 2 d)
    go (inl h) (yes d) = rw (eq-eqb k 2 d) (ne_eqb m 1 (λ x. omega arith))
    go (inr h) (yes d) = rw (eq-eqb k 2 d) (ne_eqb m 1 (λ x. omega arith))

module _ (p : Params) (chip : List ℕ) (r : ℕ) where
  kinds : (v : ℕ) → count_below p.N (names_full p chip r v) + count_below p.N (names_open p chip r v) ≡ count_below p.N (names p chip r v)
  unfolding names_full names_open
  kinds v = count_split p.N (names p chip r v) (λ n. is_full p (block p chip n))

  pub pairs_pass : ((v : ℕ) → v < p.gamma → count_below p.N (names_full p chip r v) ≤ 1) → ((v : ℕ) → v < p.gamma → count_below p.N (names_open p chip r v) ≤ 1)
      → all_below p.gamma (pair_rule p chip r) ≡ true
  unfolding pair_rule
  pairs_pass a b = all_below_intro p.gamma _ (λ v h. one_each _ _ _ (kinds v) (a v h) (b v h))

  pair_fails : (v : ℕ) → (2 ≤ count_below p.N (names_full p chip r v)) ⊎ (2 ≤ count_below p.N (names_open p chip r v)) → pair_rule p chip r v ≡ false
  unfolding pair_rule
  pair_fails v two = two_of_one _ _ _ (kinds v) two

  pub pairs_fail : (v : ℕ) → v < p.gamma → (2 ≤ count_below p.N (names_full p chip r v)) ⊎ (2 ≤ count_below p.N (names_open p chip r v))
      → all_below p.gamma (pair_rule p chip r) ≡ false
  pairs_fail v h two = all_fails p.gamma v (pair_rule p chip r) h (pair_fails v two)
