-- What the lent lengths give, and the erases of a BST that lists the blocks that pass a test.
-- Assumes nothing.
use mathlib.Core.Path.{◌≡◌, refl, ap, ◌∙◌}
use mathlib.Core.Bool.{Bool, true, false, cond}
use mathlib.Core.List.{List}
use Prim.Native.Nat.{ℕ, zero, suc, ◌<◌}
use native.Mathlib.Omega.{arith}
use lib.Dec.{eqb}
use lib.ListN.{length}
use borrow.Author.Tests.{eqb-true}
use Rattle.lists.specs.Below.{join_below, list_below}
use Rattle.lists.proofs.Lists.{list_at}
use Rattle.lists.proofs.Tests.{truths}
use Rattle.rules.specs.declared.Params.{Params}
use Rattle.rules.specs.Parameters.{allowed}
use Rattle.rules.specs.Tables.{Board, bst_at}
use Rattle.rules.specs.Traces.{erase_where}
use Rattle.rules.specs.Replies.{lengths_fit}
use Rattle.rules.proofs.Erases.{erases_below, where_below}
use Rattle.rules.proofs.TableFacts.{chip_size}
use Rattle.chip_lost.proofs.Board.{Lengths}
use Rattle.format_work.specs.Blocks.{BlocksAsked}
use Rattle.cut_erases.specs.Listed.{listed}

module _ (p : Params) (b : Board) (fits : lengths_fit p b ≡ true) where
  pub blocks_asked : allowed p ≡ true → BlocksAsked p b.chip b.bst b.wear
  unfolding lengths_fit
  blocks_asked fine =
      let t = truths _ fits in
      record {
        fine = fine;
        chip_length = eqb-true _ _ t.0 ∙ chip_size p;
        bst_length = eqb-true _ _ t.1.1.1.1.0;
        wear_length = eqb-true _ _ t.1.1.1.1.1.0;
      }

  pub table_lengths : Lengths p b.ct b.bt b.fst b.bst b.marks b.stamps
  unfolding lengths_fit
  table_lengths =
      let t = truths _ fits in
      record {
        ct_length = eqb-true _ _ t.1.0;
        bt_length = eqb-true _ _ t.1.1.0;
        fst_length = eqb-true _ _ t.1.1.1.0;
        bst_length = eqb-true _ _ t.1.1.1.1.0;
        marks_length = eqb-true _ _ t.1.1.1.1.1.1.0;
        stamps_length = eqb-true _ _ t.1.1.1.1.1.1.1.0;
      }

-- ---- the list of what is to be erased

same_erases : (p : Params) (wear : List ℕ) (f g : ℕ → Bool) (n : ℕ) → ((i : ℕ) → i < n → f i ≡ g i) → erases_below p wear f n ≡ erases_below p wear g n
unfolding erases_below join_below
same_erases p wear f g zero h = refl
same_erases p wear f g (suc n) h = rw (same_erases p wear f g n (λ i low. h i (omega arith)), h n (omega arith))

module _ (p : Params) (f : ℕ → Bool) (bst : List ℕ) (is : bst ≡ list_below p.N (λ n. cond (f n) 0 2)) where
  listed_is : (n : ℕ) → n < p.N → listed bst n ≡ f n
  unfolding listed bst_at
  listed_is n low = rw (is, list_at {A = ℕ} p.N (λ n. cond (f n) 0 2) n 0 low) (go (f n))
    where
      go : (t : Bool) → eqb (cond t 0 2) 0 ≡ t
      go true = refl
      go false = refl

  pub where_listed : (wear : List ℕ) → erase_where p wear (listed bst) ≡ erase_where p wear f
  where_listed wear = rw (where_below p wear (listed bst), where_below p wear f) (same_erases p wear (listed bst) f p.N listed_is)

  pub count_is : (wear : List ℕ) (k : ℕ) → k ≡ length (erase_where p wear (listed bst)) → k ≡ length (erase_where p wear f)
  count_is wear k e = e ∙ ap length (where_listed wear)
