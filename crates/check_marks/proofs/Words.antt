-- A word of marks, halved turn by turn: bit i is the lowest bit of the word divided by 2^i, and where nothing is left no later bit is set.
-- Assumes nothing.
use mathlib.Core.Path.{◌≡◌, ap, refl, sym, ◌∙◌}
use mathlib.Core.Logic.{◌⊎◌, inl, inr}
use mathlib.Core.Bool.{Bool, ◌||◌, false, not, true}
use Prim.Native.Nat.{ℕ, ◌*◌, ◌+◌, ◌-◌, ◌/◌, ◌^◌, ◌<◌, ◌≤◌}
use native.Mathlib.Decide.{dec_lt, ℕ_discrete}
use native.Mathlib.Nat.{div-eq_of_lt, zero-div}
use native.Mathlib.Omega.{arith}
use lib.Pow.{shr-shr}
use Rattle.lists.specs.Below.{all_below}
use Rattle.lists.proofs.Tests.{all_at, all_below_intro, or_cases, never, so}
use Rattle.bits.proofs.Words.{bits_none, bits_of}
use Rattle.loops.proofs.Below.{all_fails}
use lib.Dec.{eqb}
use borrow.Author.Tests.{eq-eqb, ne_eqb, not-true}
use Rattle.check_marks.specs.Shown.{bit_in, only_in}

-- what is left after i turns, and after one more
pub half : (x i rest : ℕ) → rest ≡ x / 2 ^ i → rest / 2 ≡ x / 2 ^ (i + 1)
half x i rest e = rw e (shr-shr x i 1)

-- nothing is left after 64
pub turns : (x i rest : ℕ) → x < 2 ^ 64 → i ≤ 64 → rest ≡ x / 2 ^ i → 0 < rest → i < 64
turns x i rest small h e some = go (ℕ_discrete i 64)
  where
    go : Dec (i ≡ 64) → i < 64
    go (yes k) = absurd (omega (arith, e ∙ ap (λ (j : ℕ). x / 2 ^ j) k ∙ div-eq_of_lt small))
    go (no k) = omega arith

-- no bit of nothing
no_bit : (x i j : ℕ) → x / 2 ^ i ≡ 0 → i ≤ j → bit_in x j ≡ false
no_bit x i j e h =
    let k : i + (j - i) ≡ j = omega arith in
    let z : x / 2 ^ j ≡ 0 = ap (λ (m : ℕ). x / 2 ^ m) (sym k) ∙ sym (shr-shr x i (j - i)) ∙ rw e (zero-div (2 ^ (j - i))) in
    rw z

module _ (m : ℕ → Bool) (w x : ℕ) where
  -- the test of bit i
  abbrev pub only : ℕ → Bool
  only i = not (bit_in x i) || m (64 * w + i)

  pub only_done : (i : ℕ) → x / 2 ^ i ≡ 0 → all_below i only ≡ true → only_in m w x ≡ true
  unfolding only_in
  only_done i e h = all_below_intro 64 only (λ j l. go j (dec_lt j i))
    where
      go : (j : ℕ) → Dec (j < i) → only j ≡ true
      go j (yes k) = all_at i only h j k
      go j (no k) = rw (no_bit x i j e (omega arith))

  pub only_fails : (i : ℕ) → i < 64 → only i ≡ false → only_in m w x ≡ false
  unfolding only_in
  only_fails i l h = all_fails 64 i only l h

-- a word that has no mark, and one that has, where none is allowed
pub zero_only : (m : ℕ → Bool) (w x : ℕ) → x ≡ 0 → only_in m w x ≡ true
zero_only m w x e = only_done m w x 0 (rw e (zero-div (2 ^ 0))) (unfold all_below in refl)

pub none_only : (w x : ℕ) → x < 2 ^ 64 → (x ≡ 0 → ⊥) → only_in (λ f. false) w x ≡ false
unfolding only_in
none_only w x small ne = go (so (only_in (λ f. false) w x))
  where
    clear : only_in (λ f. false) w x ≡ true → (i : ℕ) → i < 64 → bit_in x i ≡ false
    clear h i l = bit (or_cases (not (bit_in x i)) (all_at 64 (only (λ f. false) w x) h i l))
      where
        bit : (not (bit_in x i) ≡ true) ⊎ (false ≡ true) → bit_in x i ≡ false
        bit (inl k) = not-true _ k
        bit (inr k) = absurd (never k refl)

    go : (only_in (λ f. false) w x ≡ true) ⊎ (only_in (λ f. false) w x ≡ false) → only_in (λ f. false) w x ≡ false
    go (inl h) = absurd (ne (bits_of 64 x small ∙ bits_none 64 (bit_in x) (clear h)))
    go (inr h) = h

pub none_is : (w x : ℕ) → x < 2 ^ 64 → eqb x 0 ≡ only_in (λ f. false) w x
none_is w x small = go (ℕ_discrete x 0)
  where
    go : Dec (x ≡ 0) → eqb x 0 ≡ only_in (λ f. false) w x
    go (yes k) = rw (eq-eqb x 0 k, zero_only (λ f. false) w x k)
    go (no k) = rw (ne_eqb x 0 k, none_only w x small k)
