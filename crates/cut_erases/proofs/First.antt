-- The first k operations of the blocks that BST lists, as the loop makes them: after n turns the first k of those of the blocks below n are made, and what is left is k less all of them. While some is
-- left all were made, so that the wear of the next block is as lent, and with it whether the erase wears it out.
-- Assumes nothing.
use mathlib.Core.Path.{◌≡◌, refl, sym, ap, ◌∙◌}
use mathlib.Core.Logic.{◌⊎◌, inl, inr}
use mathlib.Core.Bool.{Bool, true, false, cond}
use mathlib.Core.List.{List, [], ◌∷◌, ◌++◌}
use Prim.Native.Nat.{ℕ, ◌+◌, ◌-◌, ◌*◌, ◌≤◌, ◌<◌, min}
use native.Mathlib.Decide.{dec_lt}
use native.Mathlib.Omega.{arith}
use lib.ListN.{length, length-append, length-take, take}
use lib.Seq.{take_all, take-nil}
use borrow.Author.Tests.{eq-eqb, ne_eqb}
use Rattle.lists.specs.Below.{join_below}
use Rattle.lists.proofs.Lists.{take_append}
use Rattle.lists.proofs.Parts.{next}
use Rattle.rules.specs.declared.Params.{Params}
use Rattle.rules.specs.Parameters.{block_bytes}
use Rattle.rules.specs.Tables.{bst_at, wear_at}
use Rattle.rules.specs.Traces.{Op, erase, erase_ops, erase_where, on_chip, on_wear, replay_chip, replay_wear, worn}
use Rattle.rules.proofs.Chip.{replay_append}
use Rattle.rules.proofs.Erases.{erases_below, one_more, wear_ahead, wear_append, where_below}
use Rattle.rules.proofs.Replays.{erase_ran}
use Rattle.rules.proofs.Sizes.{Sizes, sizes}
use Rattle.rules.proofs.WornBlocks.{first_ops, wear_out_long, wear_out_ran, wear_out_wear}
use Rattle.rules.proofs.Writes.{wear_length_lem}
use Rattle.format_work.specs.Blocks.{BlockAsked, BlocksAsked}
use Rattle.cut_erases.specs.Listed.{EraseDone, block_ops, listed}

-- ---- one block

-- at most two operations
erase_few : (p : Params) (wear : List ℕ) (n : ℕ) → length (erase_ops p wear n) ≤ 2
erase_few p wear n = rw (wear_out_long p wear n) (go (worn p wear n))
  where
    go : (t : Bool) → 1 + cond t 1 0 ≤ 2
    go true = omega arith
    go false = omega arith

-- which they are is by the block's own wear
by_wear : (p : Params) (bst wear wear₁ : List ℕ) (n : ℕ) → wear_at wear₁ n ≡ wear_at wear n → block_ops p bst wear₁ n ≡ block_ops p bst wear n
unfolding block_ops erase_ops worn
by_wear p bst wear wear₁ n e = rw e

module _ (p : Params) (bst wear : List ℕ) (n s : ℕ) (is : s ≡ bst_at bst n) where
  pub none_listed : (s ≡ 0 → ⊥) → block_ops p bst wear n ≡ []
  unfolding block_ops listed
  none_listed ne = rw (← is, ne_eqb s 0 ne)

  pub all_listed : s ≡ 0 → block_ops p bst wear n ≡ erase_ops p wear n
  unfolding block_ops listed
  all_listed e = rw (← is, eq-eqb s 0 e)

  -- how many they are
  pub long_none : (s ≡ 0 → ⊥) → 0 ≡ length (block_ops p bst wear n)
  long_none ne = rw (none_listed ne)

  pub long_worn : s ≡ 0 → worn p wear n ≡ true → 2 ≡ length (block_ops p bst wear n)
  long_worn e t = rw (all_listed e, wear_out_long p wear n, t)

  pub long_fresh : s ≡ 0 → worn p wear n ≡ false → 1 ≡ length (block_ops p bst wear n)
  long_fresh e t = rw (all_listed e, wear_out_long p wear n, t)

  module _ (chip : List ℕ) (left : ℕ) where
    pub not_listed : (s ≡ 0 → ⊥) → EraseDone p chip bst wear n left chip wear 0
    not_listed ne =
        let none : take left (block_ops p bst wear n) ≡ [] = rw (none_listed ne) (take-nil left) in
        record { chip_is = rw none (unfold replay_chip in refl); wear_is = rw none (unfold replay_wear in refl); count = rw none }

    pub only_erased : s ≡ 0 → left ≡ 1 → (chip' wear' : List ℕ) → chip' ≡ on_chip p chip (erase n) → wear' ≡ on_wear wear (erase n) → EraseDone p chip bst wear n left chip' wear' 1
    only_erased e l chip' wear' x y =
        let one : take left (block_ops p bst wear n) ≡ erase n ∷ [] = rw (l, all_listed e) (unfold erase_ops in refl) in
        record { chip_is = rw one (unfold replay_chip in x); wear_is = rw one (unfold replay_wear in y); count = rw one }

    pub all_made : s ≡ 0 → 2 ≤ left → (chip' wear' : List ℕ) → chip' ≡ replay_chip p chip (erase_ops p wear n) → wear' ≡ on_wear wear (erase n) → (x : ℕ) → x ≡ length (block_ops p bst wear n)
        → EraseDone p chip bst wear n left chip' wear' x
    all_made e l chip' wear' c w x m =
        let whole : take left (block_ops p bst wear n) ≡ erase_ops p wear n = rw (all_listed e) (take_all left (erase_ops p wear n) (omega (arith, erase_few p wear n))) in
        record { chip_is = rw whole c; wear_is = rw whole (w ∙ sym (wear_out_wear p wear n wear)); count = rw whole (m ∙ ap length (all_listed e)) }

-- neither none nor one
pub two_left : (left : ℕ) → (left ≡ 0 → ⊥) → (left ≡ 1 → ⊥) → 2 ≤ left
two_left left a b = omega arith

pub none_left : (p : Params) (chip bst wear : List ℕ) (n left : ℕ) → left ≡ 0 → EraseDone p chip bst wear n left chip wear 0
none_left p chip bst wear n left e = record { chip_is = rw e (unfold replay_chip in refl); wear_is = rw e (unfold replay_wear in refl); count = rw e }

-- the chip stays as long as it was
size_kept : (p : Params) → Sizes p → (chip bst wear : List ℕ) (n left : ℕ) → n * block_bytes p + block_bytes p ≤ length chip
    → length (replay_chip p chip (take left (block_ops p bst wear n))) ≡ length chip
unfolding block_ops
size_kept p z chip bst wear n left fits = go (listed bst n) (first_ops p wear n left)
  where
    go : (t : Bool) → (take left (erase_ops p wear n) ≡ []) ⊎ ((take left (erase_ops p wear n) ≡ erase n ∷ []) ⊎ (take left (erase_ops p wear n) ≡ erase_ops p wear n))
        → length (replay_chip p chip (take left (cond t (erase_ops p wear n) []))) ≡ length chip
    go false f = rw (take-nil {A = Op} left) (unfold replay_chip in refl)
    go true (inl e) = rw e (unfold replay_chip in refl)
    go true (inr (inl e)) = rw e (erase_ran p chip n fits).size
    go true (inr (inr e)) = rw e (wear_out_ran p z chip n fits wear).size

-- ---- all of them, counted

pub count_more : (p : Params) (bst wear : List ℕ) (n k x : ℕ) → k ≡ length (erases_below p wear (listed bst) n) → x ≡ length (block_ops p bst wear n)
    → k + x ≡ length (erases_below p wear (listed bst) (n + 1))
unfolding block_ops
count_more p bst wear n k x e f = rw (one_more p wear (listed bst) n, length-append (erases_below p wear (listed bst) n)) (omega (arith, e, f))

pub count_none : (p : Params) (bst wear : List ℕ) → 0 ≡ length (erases_below p wear (listed bst) 0)
unfolding erases_below join_below
count_none p bst wear = refl

pub count_all : (p : Params) (bst wear : List ℕ) (n k : ℕ) → n ≡ p.N → k ≡ length (erases_below p wear (listed bst) n) → k ≡ length (erase_where p wear (listed bst))
count_all p bst wear n k e f = f ∙ rw (e, where_below p wear (listed bst))

pub ops_few : (p : Params) (bst wear : List ℕ) (n : ℕ) → length (block_ops p bst wear n) ≤ 2
unfolding block_ops
ops_few p bst wear n = go (listed bst n)
  where
    go : (t : Bool) → length (cond t (erase_ops p wear n) []) ≤ 2
    go true = erase_few p wear n
    go false = omega arith

-- ---- as the loop goes

module _ (p : Params) (chip bst wear : List ℕ) (k : ℕ) (a : BlocksAsked p chip bst wear) where
  abbrev below : ℕ → List Op
  below n = erases_below p wear (listed bst) n

  -- after n turns
  pub record So (n : ℕ) (chip₁ wear₁ : List ℕ) (left : ℕ) : Type 0 where
    pub chip_is : chip₁ ≡ replay_chip p chip (take k (below n))
    pub wear_is : wear₁ ≡ replay_wear wear (take k (below n))
    pub left_is : left ≡ k - length (below n)
    pub chip_same : length chip₁ ≡ length chip

  pub at_first : So 0 chip wear k
  unfolding erases_below join_below
  at_first =
      record {
        chip_is = rw (take-nil {A = Op} k) (unfold replay_chip in refl);
        wear_is = rw (take-nil {A = Op} k) (unfold replay_wear in refl);
        left_is = omega arith;
        chip_same = refl;
      }

  pub wear_same : (n : ℕ) (chip₁ wear₁ : List ℕ) (left : ℕ) → So n chip₁ wear₁ left → length wear₁ ≡ length wear
  wear_same n chip₁ wear₁ left s = rw s.wear_is (wear_length_lem wear (take k (below n)))

  module _ (n : ℕ) (low : n < p.N) (chip₁ wear₁ : List ℕ) (left : ℕ) (s : So n chip₁ wear₁ left) where
    pub asked : BlockAsked p chip₁ bst wear₁ n
    asked =
        record {
          all =
              record {
                fine = a.fine;
                chip_length = s.chip_same ∙ a.chip_length;
                bst_length = a.bst_length;
                wear_length = wear_same n _ _ _ s ∙ a.wear_length;
              };
          low = low;
        }

    -- while some is left, the block's wear is as lent
    ops_same : take left (block_ops p bst wear₁ n) ≡ take left (block_ops p bst wear n)
    ops_same = go (dec_lt 0 left)
      where
        go : Dec (0 < left) → take left (block_ops p bst wear₁ n) ≡ take left (block_ops p bst wear n)
        go (no h) = let e : left ≡ 0 = omega arith in rw e
        go (yes h) =
            let all : take k (below n) ≡ below n = take_all k (below n) (omega (arith, s.left_is)) in
            ap (take left) (by_wear p bst wear wear₁ n (rw (s.wear_is, all) (wear_ahead p wear (listed bst) n n (omega arith))))

    module _ (chip₂ wear₂ : List ℕ) (x : ℕ) (d : EraseDone p chip₁ bst wear₁ n left chip₂ wear₂ x) where
      more : below (n + 1) ≡ below n ++ block_ops p bst wear n
      more = one_more p wear (listed bst) n ∙ (unfold block_ops in refl)

      first_more : take k (below (n + 1)) ≡ take k (below n) ++ take left (block_ops p bst wear n)
      first_more = rw (more, s.left_is) (take_append k (below n) (block_ops p bst wear n))

      -- no more are made than are left
      pub takes : (x ≤ left) × (left - x ≡ k - length (below (n + 1)))
      takes =
          let m : x ≡ min left (length (block_ops p bst wear n)) = d.count ∙ ap length ops_same ∙ length-take left (block_ops p bst wear n) in
          let l : length (below (n + 1)) ≡ length (below n) + length (block_ops p bst wear n) = rw more (length-append (below n) (block_ops p bst wear n)) in
          (omega (arith, m), omega (arith, m, l, s.left_is))

      pub turn : So (n + 1) chip₂ wear₂ (left - x)
      turn =
          record {
            chip_is = d.chip_is ∙ rw (ops_same, first_more, replay_append p chip (take k (below n)), s.chip_is);
            wear_is = d.wear_is ∙ rw (ops_same, first_more, wear_append wear (take k (below n)), s.wear_is);
            left_is = takes.1;
            chip_same = rw d.chip_is (size_kept p (sizes p a.fine) chip₁ bst wear₁ n left (rw (s.chip_same, a.chip_length) (next (block_bytes p) n p.N low))) ∙ s.chip_same;
          }

  pub ended : (n : ℕ) (chip₁ wear₁ : List ℕ) (left : ℕ) → n ≡ p.N → So n chip₁ wear₁ left
      → (chip₁ ≡ replay_chip p chip (take k (erase_where p wear (listed bst)))) × (wear₁ ≡ replay_wear wear (take k (erase_where p wear (listed bst))))
  ended n chip₁ wear₁ left e s =
      let these : below n ≡ erase_where p wear (listed bst) = rw (e, where_below p wear (listed bst)) in
      (s.chip_is ∙ rw these, s.wear_is ∙ rw these)
