-- BST while the entries of BT are gone over: a block is used once an entry so far names it.
-- Assumes nothing.
use mathlib.Core.Path.{◌≡◌, refl, sym, ◌∙◌}
use mathlib.Core.Bool.{Bool, true, false, and-false, and-true, cond}
use mathlib.Core.List.{List}
use Prim.Native.Nat.{ℕ, ◌+◌, ◌≤◌, ◌<◌}
use native.Mathlib.Numerals.{add-one}
use native.Mathlib.Decide.{ℕ_discrete}
use native.Mathlib.Omega.{arith}
use lib.Dec.{eqb}
use lib.ListN.{length, set}
use borrow.Author.Tests.{eq-eqb, ne_eqb}
use Rattle.lists.specs.Below.{all_below, list_below, updated}
use Rattle.lists.proofs.Joins.{updated_other, updated_same}
use Rattle.lists.proofs.Lists.{list_cong, list_set}
use Rattle.rules.specs.Tables.{bt_entry, none}
use Rattle.start_blocks.specs.Named.{named_by}

module _ (size : ℕ) (bt : List ℕ) (bad : ℕ → Bool) where
  unfoldable pub used_to : ℕ → List ℕ
  used_to i = list_below size (λ n. cond (bad n) 2 (cond (named_by bt i n) 1 0))

  pub used_none : list_below size (λ n. cond (bad n) 2 0) ≡ used_to 0
  unfolding used_to named_by all_below
  used_none = refl

  pub used_all : (i : ℕ) → i ≡ length bt → used_to i ≡ list_below size (λ n. cond (bad n) 2 (cond (named_by bt (length bt) n) 1 0))
  unfolding used_to
  used_all i e = rw e

  other : (i n : ℕ) → (bt_entry bt i ≡ n → ⊥) → named_by bt i n ≡ named_by bt (i + 1) n
  unfolding named_by all_below
  other i n ne = rw (add-one, ne_eqb (bt_entry bt i) n ne, and-true)

  here : (i n : ℕ) → bt_entry bt i ≡ n → named_by bt (i + 1) n ≡ true
  unfolding named_by all_below
  here i n e = rw (add-one, eq-eqb (bt_entry bt i) n e, and-false)

  old : ℕ → ℕ → ℕ
  old i n = cond (bad n) 2 (cond (named_by bt i n) 1 0)

  entry : (i n : ℕ) → Dec (n ≡ bt_entry bt i) → bad (bt_entry bt i) ≡ false → updated (old i) (bt_entry bt i) 1 n ≡ cond (bad n) 2 (cond (named_by bt (i + 1) n) 1 0)
  entry i n (yes x) b = rw (x, updated_same (old i) (bt_entry bt i) 1, b, here i (bt_entry bt i) refl)
  entry i n (no x) b = updated_other (old i) (bt_entry bt i) 1 n x ∙ unfold old in rw (other i n (λ y. x (sym y)))

  pub used_turn : (i : ℕ) → size ≤ 65535 → ((bt_entry bt i ≡ none → ⊥) → (bt_entry bt i < size) × (bad (bt_entry bt i) ≡ false)) → (bst₁ bst₂ : List ℕ) → bst₁ ≡ used_to i
      → bst₂ ≡ cond (eqb (bt_entry bt i) none) bst₁ (set bst₁ (bt_entry bt i) 1) → bst₂ ≡ used_to (i + 1)
  unfolding used_to old
  used_turn i small right bst₁ bst₂ e d = d ∙ rw e (go (ℕ_discrete (bt_entry bt i) none))
    where
      go : Dec (bt_entry bt i ≡ none) → cond (eqb (bt_entry bt i) none) (used_to i) (set (used_to i) (bt_entry bt i) 1) ≡ used_to (i + 1)
      go (yes q) = rw (eq-eqb (bt_entry bt i) none q) (list_cong size _ _ (λ n h. rw (other i n (λ x. omega (arith, q, x, h, small)))))
      go (no q) =
          let w = right q in
          rw (ne_eqb (bt_entry bt i) none q) (list_set size (old i) (bt_entry bt i) 1 w.0 ∙ list_cong size _ _ (λ n _. entry i n (ℕ_discrete n (bt_entry bt i)) w.1))
