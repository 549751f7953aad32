-- The passes together: each asks what the one before it made, and BT names good blocks only. Once what is left over is erased and marked, the chip itself says which blocks are worn out.
-- Assumes nothing.
use mathlib.Core.Path.{◌≡◌, refl, sym, ap, ◌∙◌}
use mathlib.Core.Logic.{◌⊎◌, inl, inr}
use mathlib.Core.Bool.{Bool, true, false, not, cond}
use mathlib.Core.List.{List}
use Prim.Native.Nat.{ℕ, ◌*◌, ◌/◌, ◌%◌, ◌≤◌, ◌<◌}
use native.Mathlib.Omega.{arith}
use lib.ListN.{length}
use borrow.Author.Tests.{ne_eqb, not-true}
use Rattle.lists.specs.Below.{list_below}
use Rattle.lists.proofs.Lists.{list_cong, list_length}
use Rattle.lists.proofs.Tests.{all_below_intro, and_left, never, so}
use Rattle.rules.specs.declared.Params.{Params}
use Rattle.rules.specs.Parameters.{block_bytes}
use Rattle.rules.specs.Tables.{bt_entry, none}
use Rattle.rules.specs.Orderly.{named}
use Rattle.rules.specs.Traces.{erased_state, replay_chip, worn}
use Rattle.rules.specs.Format.{bad}
use Rattle.rules.specs.Start.{found_bt, in_use, kept_block, left_over, start_ops}
use Rattle.rules.proofs.BadBytes.{bytes_bad}
use Rattle.rules.proofs.Erases.{Cleared, erases_ran, where_below}
use Rattle.rules.proofs.Sizes.{Sizes, sizes}
use Rattle.rules.proofs.TableFacts.{chip_size}
use Rattle.rules.proofs.WornBlocks.{left_bad}
use Rattle.starts.proofs.KeptBlocks.{entry_is, kept_names, kept_stays, named_use}
use Rattle.start_blocks.specs.Named.{StartAsked, kinds, named_by}

module _ (p : Params) (chip bt : List ℕ) (a : StartAsked p chip bt) where
  z : Sizes p
  z = sizes p a.fine

  pub chip_length_lem : length chip ≡ p.N * block_bytes p
  chip_length_lem = a.chip_length ∙ chip_size p

  pub still_asked : (bt₁ : List ℕ) → length bt₁ ≡ length bt → StartAsked p chip bt₁
  still_asked bt₁ e = record { fine = a.fine; chip_length = a.chip_length; bt_length = e ∙ a.bt_length; starts = a.starts }

  good : (n : ℕ) → in_use p chip n ≡ true → bad p chip n ≡ false
  unfolding in_use
  good n u = not-true _ (and_left (not (bad p chip n)) _ u)

  -- a block that BT names is one of the chip, and not a bad one
  good_named : (i : ℕ) → i < p.mu * p.gamma → (bt_entry (found_bt p chip) i ≡ none → ⊥) → (bt_entry (found_bt p chip) i < p.N) × (bad p chip (bt_entry (found_bt p chip) i) ≡ false)
  good_named i h ne =
      let e = entry_is p z chip i h in
      let w = kept_names p z chip (i / p.gamma) (i % p.gamma) (λ x. ne (e ∙ x)) in
      rw e (w.0, good (kept_block p chip (i / p.gamma) (i % p.gamma)) (named_use p z chip (i / p.gamma) (i % p.gamma) _ w.1))

  by_named : (n : ℕ) → named_by (found_bt p chip) (p.mu * p.gamma) n ≡ named p (found_bt p chip) n
  unfolding named_by named
  by_named n = refl

  -- a block that is left over is in use, and BT does not name it
  over_good : (n : ℕ) → left_over p chip n ≡ true → bad p chip n ≡ false
  unfolding left_over
  over_good n l = good n (and_left (in_use p chip n) _ l)

  over_unnamed : (n : ℕ) → n < p.N → left_over p chip n ≡ true → named p (found_bt p chip) n ≡ false
  unfolding named
  over_unnamed n low l = ap not (all_below_intro (p.mu * p.gamma) _ (λ i h. ap not (ne_eqb (bt_entry (found_bt p chip) i) n (other i h))))
    where
      other : (i : ℕ) → i < p.mu * p.gamma → bt_entry (found_bt p chip) i ≡ n → ⊥
      other i h e =
          let k : kept_block p chip (i / p.gamma) (i % p.gamma) ≡ n = sym (entry_is p z chip i h) ∙ e in
          never l (rw k at (kept_stays p z chip (i / p.gamma) (i % p.gamma) (λ x. omega (arith, x, k, low, z.blocks))))

  -- once what is left over is erased, and marked where that wears it out
  module _ (wear chip₁ : List ℕ) (swept : chip₁ ≡ replay_chip p chip (start_ops p chip wear)) where
    cleared : Cleared p wear (left_over p chip) chip chip₁ p.N
    unfolding start_ops
    cleared = rw (swept, where_below p wear (left_over p chip)) (erases_ran p z wear (left_over p chip) chip chip_length_lem p.N (omega arith))

    pub swept_length : length chip₁ ≡ p.N * block_bytes p
    swept_length = cleared.size ∙ chip_length_lem

    bad_kept : (n : ℕ) → left_over p chip n ≡ false → bad p chip₁ n ≡ bad p chip n
    bad_kept n l = bytes_bad p chip chip₁ n (cleared.kept n l)

    bad_worn : (n : ℕ) → n < p.N → left_over p chip n ≡ true → bad p chip₁ n ≡ worn p wear n
    bad_worn n low l = left_bad p z chip₁ n (worn p wear n) (cleared.done n low l)

    -- the bad blocks are those that were, and those that are worn out
    kind_is : (n : ℕ) → n < p.N → cond {A = ℕ} (bad p chip₁ n) 2 (cond (named p (found_bt p chip) n) 1 0)
        ≡ cond (bad p chip n) 2 (cond (named p (found_bt p chip) n) 1 (cond (left_over p chip n) (erased_state p wear n) 0))
    unfolding erased_state
    kind_is n low = go (so (left_over p chip n))
      where
        go : (left_over p chip n ≡ true) ⊎ (left_over p chip n ≡ false) → cond {A = ℕ} (bad p chip₁ n) 2 (cond (named p (found_bt p chip) n) 1 0)
            ≡ cond (bad p chip n) 2 (cond (named p (found_bt p chip) n) 1 (cond (left_over p chip n) (cond (worn p wear n) 2 0) 0))
        go (inl l) = rw (bad_worn n low l, over_good n l, over_unnamed n low l, l)
        go (inr l) = rw (bad_kept n l, l)

    kept_good : (i : ℕ) → i < p.mu * p.gamma → (bt_entry (found_bt p chip) i ≡ none → ⊥) → bad p chip₁ (bt_entry (found_bt p chip) i) ≡ false
    kept_good i h ne =
        let e = entry_is p z chip i h in
        let stays : left_over p chip (bt_entry (found_bt p chip) i) ≡ false = rw e (kept_stays p z chip (i / p.gamma) (i % p.gamma) (λ x. ne (e ∙ x))) in
        bad_kept (bt_entry (found_bt p chip) i) stays ∙ (good_named i h ne).1

    -- over BT as it is found, and BST before any block is used
    module _ (bt₁ bst : List ℕ) (found : bt₁ ≡ found_bt p chip) (reserved : bst ≡ list_below p.N (λ n. cond (bad p chip₁ n) 2 0)) where
      bt_length_lem : length bt₁ ≡ p.mu * p.gamma
      unfolding found_bt
      bt_length_lem = ap length found ∙ list_length (p.mu * p.gamma) _

      bst_length_lem : length bst ≡ p.N
      bst_length_lem = ap length reserved ∙ list_length p.N _

      pub use_asked : (length bst ≤ 65535) × ((i : ℕ) → i < length bt₁ → (bt_entry bt₁ i ≡ none → ⊥) → bt_entry bt₁ i < length bst)
      use_asked = (rw bst_length_lem z.blocks, λ i h ne. rw (bst_length_lem, found) (good_named i (rw bt_length_lem at h) (λ e. ne (rw found e))).0)

      pub kinds_are : (bst' : List ℕ)
          → ((bad : ℕ → Bool) → ((i : ℕ) → i < length bt₁ → (bt_entry bt₁ i ≡ none → ⊥) → bad (bt_entry bt₁ i) ≡ false) → bst ≡ list_below (length bst) (λ n. cond (bad n) 2 0)
          → bst' ≡ list_below (length bst) (λ n. cond (bad n) 2 (cond (named_by bt₁ (length bt₁) n) 1 0)))
          → bst' ≡ kinds p chip wear (found_bt p chip)
      kinds_are bst' h =
          h (bad p chip₁) (λ i l ne. rw found (kept_good i (rw bt_length_lem at l) (λ e. ne (rw found e)))) (reserved ∙ rw bst_length_lem)
          ∙ rw (bst_length_lem, bt_length_lem, found) (list_cong p.N _ _ (λ n low. ap (λ (t : Bool). cond {A = ℕ} (bad p chip₁ n) 2 (cond t 1 0)) (by_named n) ∙ kind_is n low))
