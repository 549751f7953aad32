-- BT while the blocks are gone over, each of which names one entry: entry i is, by way of a function G, the first block so far that passes the test T of its region and its virtual block.
-- Assumes nothing.
use mathlib.Core.Path.{◌≡◌, sym, ◌∙◌}
use mathlib.Core.Logic.{◌⊎◌, inl, inr}
use mathlib.Core.Bool.{Bool, true, false, and-false}
use mathlib.Core.List.{List}
use Prim.Native.Nat.{ℕ, ◌+◌, ◌*◌, ◌/◌, ◌%◌, ◌≤◌, ◌<◌}
use native.Mathlib.Numerals.{add-one}
use native.Mathlib.Nat.{add-zero, div-add-mod', div-eq_of_lt, mod-eq_of_lt, mul-add-div_right, mul-add-mod_self_right}
use native.Mathlib.Decide.{ℕ_discrete}
use native.Mathlib.Omega.{arith}
use lib.ListN.{get_or, length, set}
use Rattle.lists.specs.Below.{count_below, first_below, list_below, updated}
use Rattle.lists.proofs.Counts.{count_unique}
use Rattle.lists.proofs.Joins.{updated_other, updated_same}
use Rattle.lists.proofs.Lists.{list_at, list_cong, list_length, list_set}
use Rattle.lists.proofs.Searches.{first_spec}
use Rattle.lists.proofs.Tests.{so}
use Rattle.rules.specs.Tables.{none}

module _ (n γ : ℕ) (pos : 0 < γ) (G : ℕ → ℕ → ℕ) (T : ℕ → ℕ → ℕ → Bool) where
  unfoldable pub entry_to : ℕ → ℕ → ℕ
  entry_to k i = G i (first_below none k (T (i / γ) (i % γ)))

  unfoldable pub entries_to : ℕ → List ℕ
  entries_to k = list_below n (entry_to k)

  pub entries_length : (k : ℕ) → length (entries_to k) ≡ n
  unfolding entries_to
  entries_length k = list_length n _

  -- block k passes for no entry
  same : (k i : ℕ) → T (i / γ) (i % γ) k ≡ false → entry_to k i ≡ entry_to (k + 1) i
  unfolding entry_to first_below
  same k i e = rw (add-one, e, and-false)

  pub entries_skip : (k : ℕ) → ((r v : ℕ) → T r v k ≡ false) → entries_to k ≡ entries_to (k + 1)
  unfolding entries_to
  entries_skip k h = list_cong n _ _ (λ i _. same k i (h (i / γ) (i % γ)))

  -- block k passes for one entry at most
  module _ (k r v : ℕ) (low : v < γ) (inside : r * γ + v < n) (only : (a b : ℕ) → T a b k ≡ true → (a ≡ r) × (b ≡ v)) where
    abbrev at : ℕ
    at = r * γ + v

    pub region_is_lem : at / γ ≡ r
    region_is_lem = rw (mul-add-div_right pos, div-eq_of_lt low) (add-zero r)

    pub vblock_is_lem : at % γ ≡ v
    vblock_is_lem = rw mul-add-mod_self_right (mod-eq_of_lt low)

    pub entry_here_lem : (d : ℕ) → get_or (entries_to k) at d ≡ G at (first_below none k (T r v))
    unfolding entries_to entry_to
    entry_here_lem d = list_at n _ at d inside ∙ rw (region_is_lem, vblock_is_lem)

    other : (i : ℕ) → (i ≡ at → ⊥) → entry_to k i ≡ entry_to (k + 1) i
    other i ne = go (so (T (i / γ) (i % γ) k))
      where
        go : (T (i / γ) (i % γ) k ≡ true) ⊎ (T (i / γ) (i % γ) k ≡ false) → entry_to k i ≡ entry_to (k + 1) i
        go (inr e) = same k i e
        go (inl t) = let w = only (i / γ) (i % γ) t in absurd (ne (sym (div-add-mod' i γ) ∙ rw (w.0, w.1)))

    -- the entry has its block whatever is found
    pub entries_fixed : ((x y : ℕ) → G at x ≡ G at y) → entries_to k ≡ entries_to (k + 1)
    unfolding entries_to
    entries_fixed h = list_cong n _ _ (λ i _. go i (ℕ_discrete i at))
      where
        go : (i : ℕ) → Dec (i ≡ at) → entry_to k i ≡ entry_to (k + 1) i
        go i (yes e) = unfold entry_to in rw e (h _ _)
        go i (no ne) = other i ne

    -- it is the first for its entry
    pub entries_put : T r v k ≡ true → first_below none k (T r v) ≡ none → G at k ≡ k → set (entries_to k) at k ≡ entries_to (k + 1)
    unfolding entries_to
    entries_put t first g = list_set n (entry_to k) at k inside ∙ list_cong n _ _ (λ i _. go i (ℕ_discrete i at))
      where
        now : entry_to (k + 1) at ≡ k
        now = unfold entry_to first_below in rw (region_is_lem, vblock_is_lem, add-one, first, t) g

        go : (i : ℕ) → Dec (i ≡ at) → updated (entry_to k) at k i ≡ entry_to (k + 1) i
        go i (yes e) = rw (e, updated_same (entry_to k) at k) (sym now)
        go i (no ne) = updated_other (entry_to k) at k i ne ∙ other i ne

-- where one at most passes, none passes before it
pub first_alone : (T : ℕ → Bool) (n k : ℕ) → count_below n T ≤ 1 → n ≤ none → k < n → T k ≡ true → first_below none k T ≡ none
first_alone T n k few small low t = go (first_spec none k T (omega arith))
  where
    go : ((first_below none k T ≡ none) × ((i : ℕ) → i < k → T i ≡ false)) ⊎ ((first_below none k T < k) × (T (first_below none k T) ≡ true)) → first_below none k T ≡ none
    go (inl w) = w.0
    go (inr w) = absurd (omega (arith, w.0, count_unique n T few (first_below none k T) k (omega (arith, w.0)) low w.1 t))
