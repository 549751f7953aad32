-- One block formatted, and what one turn adds to the blocks formatted so far: the erases of those that are not bad (rules' Erases), and their kinds in BST.
-- Assumes nothing.
use mathlib.Core.Path.{◌≡◌, refl, sym, ◌∙◌}
use mathlib.Core.Bool.{Bool, true, false, not, cond}
use mathlib.Core.List.{List, [], ◌∷◌, ◌++◌, append-nil, append_assoc}
use Prim.Native.Nat.{ℕ, suc, ◌+◌, ◌≤◌, ◌<◌}
use native.Mathlib.Numerals.{add-one}
use native.Mathlib.Omega.{arith}
use lib.ListN.{length, drop, set, drop_of_length-le, length-append, length-drop}
use lib.Seq.{drop-cons, set_at}
use Rattle.lists.specs.Below.{join_below}
use Rattle.lists.proofs.Joins.{tab_length}
use Rattle.rules.specs.declared.Params.{Params}
use Rattle.rules.specs.Traces.{erase, erase_ops, erase_where, erased_state, on_wear, replay_chip, worn}
use Rattle.rules.specs.Format.{bad, bad_mark, format_ops}
use Rattle.rules.proofs.Erases.{Erased, erases_ran, erases_below, next_erased, none_erased, worn_ahead}
use Rattle.rules.proofs.Sizes.{sizes}
use Rattle.rules.proofs.Writes.{wear_length_lem}
use Rattle.format_work.specs.Blocks.{BlocksAsked, BlockAsked, BlockDone, BlocksDone}

-- ---- one block

module _ (p : Params) (chip bst wear : List ℕ) (n : ℕ) (a : BlockAsked p chip bst wear n) where
  pub done_bad : true ≡ bad p chip n → (bst' : List ℕ) → bst' ≡ set bst n 2 → BlockDone p chip bst wear n chip bst' wear 0
  done_bad e bst' b = record { chip_is = rw (← e); bst_is = rw (← e) b; wear_is = rw (← e); count = rw (← e) }

  pub done_good : false ≡ bad p chip n → (chip' bst' wear' : List ℕ) → chip' ≡ replay_chip p chip (erase_ops p wear n) → (t : Bool) → t ≡ worn p wear n
      → (s : ℕ) → s ≡ cond t 2 0 → bst' ≡ set bst n s → wear' ≡ on_wear wear (erase n) → BlockDone p chip bst wear n chip' bst' wear' 1
  unfolding erased_state
  done_good e chip' bst' wear' x t te s se b y = record { chip_is = rw (← e) x; bst_is = rw (← e) (b ∙ rw (se, te)); wear_is = rw (← e) y; count = rw (← e) }

-- ---- all of them

-- a value that is one where the block is bad, and another where it is not
pub flipped : {A : Type 0} (t : Bool) (x y : A) → cond t x y ≡ cond (not t) y x
flipped true x y = refl
flipped false x y = refl

module _ (p : Params) (chip bst wear : List ℕ) (a : BlocksAsked p chip bst wear) where
  abbrev good : ℕ → Bool
  good n = not (bad p chip n)

  unfoldable pub kinds_below : ℕ → List ℕ
  kinds_below k = join_below k (λ n. cond (bad p chip n) 2 (erased_state p wear n) ∷ [])

  -- after k turns
  pub record So (k : ℕ) (chip₁ bst₁ wear₁ : List ℕ) (e : ℕ) : Type 0 where
    pub erased : Erased p good chip wear k chip₁ wear₁ e
    pub bst_is : bst₁ ≡ kinds_below k ++ drop k bst

  pub start : So 0 chip bst wear 0
  unfolding kinds_below join_below
  start = record { erased = none_erased p good chip wear; bst_is = refl }

  kinds_length : (k : ℕ) → length (kinds_below k) ≡ k
  unfolding kinds_below
  kinds_length k = tab_length k (λ n. cond (bad p chip n) 2 (erased_state p wear n))

  -- every length is what it was
  module _ (k : ℕ) (low : k ≤ p.N) (chip₁ bst₁ wear₁ : List ℕ) (e : ℕ) (so : So k chip₁ bst₁ wear₁ e) where
    pub chip_size : length chip₁ ≡ length chip
    chip_size = rw so.erased.chip_is (erases_ran p (sizes p a.fine) wear good chip a.chip_length k low).size

    pub bst_size : length bst₁ ≡ length bst
    bst_size = rw (so.bst_is, length-append, kinds_length k, length-drop) (omega (arith, a.bst_length))

    pub wear_size : length wear₁ ≡ length wear
    wear_size = rw so.erased.wear_is (wear_length_lem wear (erases_below p wear good k))

  module _ (k : ℕ) (low : k < p.N) (chip₁ bst₁ wear₁ : List ℕ) (e : ℕ) (so : So k chip₁ bst₁ wear₁ e) where
    pub asked : BlockAsked p chip₁ bst₁ wear₁ k
    asked =
        record {
          all =
              record {
                fine = a.fine;
                chip_length = chip_size k (omega arith) _ _ _ _ so ∙ a.chip_length;
                bst_length = bst_size k (omega arith) _ _ _ _ so ∙ a.bst_length;
                wear_length = wear_size k (omega arith) _ _ _ _ so ∙ a.wear_length;
              };
          low = low;
        }

    -- the next block's mark is the one on the chip that was lent
    mark_is : bad p chip₁ k ≡ bad p chip k
    unfolding bad bad_mark
    mark_is = rw (so.erased.chip_is, (erases_ran p (sizes p a.fine) wear good chip a.chip_length k (omega arith)).ahead k (omega arith))

    state_is : erased_state p wear₁ k ≡ erased_state p wear k
    unfolding erased_state
    state_is = rw (worn_ahead p good chip wear k _ _ _ so.erased)

    pub turn : (chip₂ bst₂ wear₂ : List ℕ) (x : ℕ) → BlockDone p chip₁ bst₁ wear₁ k chip₂ bst₂ wear₂ x → So (k + 1) chip₂ bst₂ wear₂ (e + x)
    turn chip₂ bst₂ wear₂ x d =
        record {
          erased =
              next_erased p good chip wear k chip₁ wear₁ e so.erased chip₂ wear₂ x (d.chip_is ∙ rw mark_is (flipped (bad p chip k) _ _)) (d.wear_is ∙ rw mark_is (flipped (bad p chip k) _ _))
              (d.count ∙ rw mark_is (flipped (bad p chip k) _ _));
          bst_is = d.bst_is ∙ rw (mark_is, state_is, so.bst_is) kinds_go;
        }
      where
        kinds_go : set (kinds_below k ++ drop k bst) k (cond (bad p chip k) 2 (erased_state p wear k)) ≡ kinds_below (k + 1) ++ drop (k + 1) bst
        kinds_go =
            let h : k < length bst = rw a.bst_length low in
            rw (drop-cons bst k 0, set_at (kinds_below k) _ (drop (suc k) bst) (cond (bad p chip k) 2 (erased_state p wear k)) k (kinds_length k), add-one)
            (unfold kinds_below join_below in sym (append_assoc (kinds_below k) (cond (bad p chip k) 2 (erased_state p wear k) ∷ []) (drop (suc k) bst)))

  pub done : (k : ℕ) (chip₁ bst₁ wear₁ : List ℕ) (e : ℕ) → k ≡ p.N → So k chip₁ bst₁ wear₁ e → BlocksDone p chip wear chip₁ bst₁ wear₁ e
  unfolding format_ops erase_where erases_below kinds_below
  done k chip₁ bst₁ wear₁ e q so =
      record {
        chip_is = so.erased.chip_is ∙ rw q;
        bst_is = so.bst_is ∙ rw (q, drop_of_length-le bst {i = p.N} (omega (arith, a.bst_length)), append-nil);
        wear_is = so.erased.wear_is ∙ rw q;
        count = so.erased.count ∙ rw q;
        few = rw (← q) so.erased.few;
      }
