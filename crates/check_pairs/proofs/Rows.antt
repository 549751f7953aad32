-- What one block more adds to a row: it takes a place that is free, or leaves the row as it is. Where the place is taken, two blocks of the kind name one virtual block.
-- Assumes nothing.
use mathlib.Core.Path.{◌≡◌, sym, ap, ◌∙◌}
use mathlib.Core.Logic.{◌⊎◌, inl, inr}
use mathlib.Core.Bool.{Bool, true, false, and-false}
use mathlib.Core.List.{List}
use Prim.Native.Nat.{ℕ, ◌+◌, ◌≤◌, ◌<◌}
use native.Mathlib.Decide.{ℕ_discrete}
use native.Mathlib.Nat.{add-zero}
use native.Mathlib.Numerals.{add-one}
use native.Mathlib.Omega.{arith}
use lib.Dec.{eqb}
use lib.ListN.{get_or, get_or-replicate, length, length-replicate, length-set, replicate, set}
use lib.Seq.{get_or-set_other, get_or-set_same}
use borrow.Author.Tests.{eqb-false, eqb-true}
use Rattle.lists.specs.Below.{count_below, first_below}
use Rattle.lists.proofs.Ranks.{rank_low}
use Rattle.lists.proofs.Searches.{first_spec}
use Rattle.lists.proofs.Tests.{count_is}
use Rattle.rules.specs.declared.Params.{Params}
use Rattle.rules.specs.Tables.{none}
use Rattle.check_pairs.specs.Rows.{Row}

-- ---- a search and a count, one number further

first_no : (n : ℕ) (f : ℕ → Bool) → f n ≡ false → first_below none (n + 1) f ≡ first_below none n f
unfolding first_below
first_no n f e = rw (add-one n, e, and-false (eqb (first_below none n f) none))

first_yes : (n : ℕ) (f : ℕ → Bool) → f n ≡ true → first_below none n f ≡ none → first_below none (n + 1) f ≡ n
unfolding first_below
first_yes n f e k = rw (add-one n, e, k)

count_same : (n : ℕ) (f : ℕ → Bool) → f n ≡ false → count_below (n + 1) f ≡ count_below n f
unfolding count_below
count_same n f e = rw (add-one n, e, add-zero)

count_one : (n : ℕ) (f : ℕ → Bool) → f n ≡ true → count_below n f ≡ 0 → count_below (n + 1) f ≡ 1
unfolding count_below
count_one n f e k = rw (add-one n, e, k)

-- a search that finds nothing counts nothing
none_counted : (n : ℕ) (f : ℕ → Bool) → n ≤ none → first_below none n f ≡ none → count_below n f ≡ 0
none_counted n f h e = go (first_spec none n f h)
  where
    go : ((first_below none n f ≡ none) × ((i : ℕ) → i < n → f i ≡ false)) ⊎ ((first_below none n f < n) × (f (first_below none n f) ≡ true)) → count_below n f ≡ 0
    go (inl w) = count_is n 0 f (omega arith) (λ i k. absurd (omega arith)) (λ i a b. w.1 i b)
    go (inr w) = absurd (omega (arith, w.0, e, h))

-- ---- a row

module _ (p : Params) (few : p.gamma ≤ 16) (kind : ℕ → ℕ → Bool) where
  pub row_start : (row : List ℕ) → row ≡ replicate 16 none → Row p kind 0 row
  unfolding first_below count_below
  row_start row e =
      record {
        size = ap length e ∙ length-replicate 16 none;
        entry = λ v h. rw e (get_or-replicate 16 v none none (omega arith));
        once = λ v h. omega arith;
      }

  -- a virtual block has a place
  pub place_in : (n : ℕ) (row : List ℕ) → Row p kind n row → (v : ℕ) → v < p.gamma → v < length row
  place_in n row s v h = rw s.size (omega arith)

  -- no virtual block is named by block n as this kind
  pub row_same : (n : ℕ) (row : List ℕ) → Row p kind n row → ((v : ℕ) → v < p.gamma → kind v n ≡ false) → Row p kind (n + 1) row
  row_same n row s not =
      record {
        size = s.size;
        entry = λ v h. s.entry v h ∙ sym (first_no n (kind v) (not v h));
        once = λ v h. rw (count_same n (kind v) (not v h)) (s.once v h);
      }

  -- v is, and no other
  module _ (n : ℕ) (low : n ≤ none) (row : List ℕ) (s : Row p kind n row) (v : ℕ) (in_row : v < p.gamma) (yes-v : kind v n ≡ true) where
    row_put : get_or row v none ≡ none → ((u : ℕ) → u < p.gamma → (u ≡ v → ⊥) → kind u n ≡ false) → (row' : List ℕ) → row' ≡ set row v n → Row p kind (n + 1) row'
    row_put free not row' e =
        record {
          size = rw e (simp length-set s.size);
          entry = λ u h. rw e (at u h (ℕ_discrete u v));
          once = λ u h. few_at u h (ℕ_discrete u v);
        }
      where
        nothing : first_below none n (kind v) ≡ none
        nothing = sym (s.entry v in_row) ∙ free

        at : (u : ℕ) → u < p.gamma → Dec (u ≡ v) → get_or (set row v n) u none ≡ first_below none (n + 1) (kind u)
        at u h (yes d) = rw d (get_or-set_same row v n none (rw s.size (omega arith)) ∙ sym (first_yes n (kind v) yes-v nothing))
        at u h (no d) = get_or-set_other row v u n none d ∙ s.entry u h ∙ sym (first_no n (kind u) (not u h d))

        few_at : (u : ℕ) → u < p.gamma → Dec (u ≡ v) → count_below (n + 1) (kind u) ≤ 1
        few_at u h (yes d) = rw (d, count_one n (kind v) yes-v (none_counted n (kind v) low nothing)) (omega arith)
        few_at u h (no d) = rw (count_same n (kind u) (not u h d)) (s.once u h)

    -- the place is taken: of all m blocks two are of this kind
    row_taken : (m : ℕ) → n < m → (get_or row v none ≡ none → ⊥) → 2 ≤ count_below m (kind v)
    row_taken m h taken = go (first_spec none n (kind v) low)
      where
        go : ((first_below none n (kind v) ≡ none) × ((i : ℕ) → i < n → kind v i ≡ false)) ⊎ ((first_below none n (kind v) < n) × (kind v (first_below none n (kind v)) ≡ true))
            → 2 ≤ count_below m (kind v)
        go (inl w) = absurd (taken (s.entry v in_row ∙ w.0))
        go (inr w) = omega (arith, rank_low n (kind v) (first_below none n (kind v)) w.0 w.1, rank_low m (kind v) n h yes-v)

    -- by whether it is free
    pub row_placed : ((u : ℕ) → u < p.gamma → (u ≡ v → ⊥) → kind u n ≡ false) → (m : ℕ) → n < m → (ok : Bool) (row' : List ℕ) → ok ≡ eqb (get_or row v none) none
        → (ok ≡ true → row' ≡ set row v n) → (ok ≡ true → Row p kind (n + 1) row') × (ok ≡ false → 2 ≤ count_below m (kind v))
    row_placed others m h ok row' free put =
        (λ t. row_put (eqb-true _ _ (sym free ∙ t)) others row' (put t), λ t. row_taken m h (eqb-false _ _ (sym free ∙ t)))
