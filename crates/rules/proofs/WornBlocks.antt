-- An erase, with the mark of a block that it wears out: what the two leave on the chip, in the wear and in BST, and what of them is counted.
-- Assumes nothing.
use mathlib.Core.Path.{◌≡◌, refl, ap, ◌∙◌}
use mathlib.Core.Logic.{◌⊎◌, inl, inr}
use Prim.Native.Nat.{ℕ, zero, suc, ◌+◌, ◌*◌, ◌≤◌, ◌<◌, min}
use native.Mathlib.Omega.{arith}
use mathlib.Core.Bool.{Bool, true, false, cond}
use mathlib.Core.List.{List, [], ◌∷◌}
use lib.ListN.{get_or, length, take}
use lib.Seq.{get_or-set_same, take_all}
use borrow.Author.Tests.{le-leb, leb-true}
use Rattle.lists.specs.Parts.{all_are}
use Rattle.rules.specs.declared.Params.{Params}
use Rattle.rules.specs.Parameters.{block_bytes}
use Rattle.rules.specs.Tables.{wear_at}
use Rattle.rules.specs.Pages.{block, page, spare}
use Rattle.rules.specs.Traces.{clean, erase, erase_ops, erases_in, is_erase, is_program, mark, mark_page, on_chip, on_wear, programs_in, replay_chip, replay_wear, worn}
use Rattle.rules.specs.Format.{bad, bad_mark}
use Rattle.rules.specs.Machine.{erased_block}
use Rattle.rules.proofs.BadBytes.{blank_good}
use Rattle.rules.proofs.MarkedBlocks.{blank_clean, mark_ran, mark_spare, marked_first, marked_size, marked_block}
use Rattle.rules.proofs.Replays.{Ran, erase_ran, fresh_all, fresh_size}
use Rattle.rules.proofs.Sizes.{Sizes, sizes}
use Rattle.rules.specs.Words.{WornExactly}

-- ---- the block

-- an erased block, with its mark where it is worn
unfoldable pub left_block : Params → Bool → List ℕ
left_block p t = cond t (marked_block p (erased_block p)) (erased_block p)

pub left_size : (p : Params) → Sizes p → (t : Bool) → length (left_block p t) ≡ block_bytes p
unfolding left_block
left_size p z true = marked_size p z (erased_block p) (fresh_size p)
left_size p z false = fresh_size p

left_first : (p : Params) → Sizes p → page p (left_block p true) 0 ≡ mark_page p
unfolding left_block
left_first p z = marked_first p z (erased_block p) (fresh_size p)

-- it is bad exactly where it is worn
pub left_bad : (p : Params) → Sizes p → (chip : List ℕ) (n : ℕ) (t : Bool) → block p chip n ≡ left_block p t → bad p chip n ≡ t
unfolding bad bad_mark spare
left_bad p z chip n true e = rw (e, left_first p z, mark_spare p)
left_bad p z chip n false e = blank_good p chip n z (rw e (left_size p z false)) (rw e (unfold left_block in fresh_all p))

-- ---- BST

-- free or reserved, and free only where the block is left erased
pub state_low : (t : Bool) → (cond {A = ℕ} t 2 0 ≤ 2) × (cond {A = ℕ} t 2 0 ≡ 1 → ⊥)
state_low true = (omega arith, λ x. omega arith)
state_low false = (omega arith, λ x. omega arith)

pub state_free : (p : Params) (t : Bool) → cond {A = ℕ} t 2 0 ≡ 0 → all_are 255 (left_block p t) ≡ true
unfolding left_block
state_free p true e = absurd (omega arith)
state_free p false e = fresh_all p

pub state_reserved : (t : Bool) → cond {A = ℕ} t 2 0 ≡ 2 → t ≡ true
state_reserved true e = refl
state_reserved false e = absurd (omega arith)

-- ---- the chip and the wear

module _ (p : Params) (z : Sizes p) (chip : List ℕ) (n : ℕ) (fits : n * block_bytes p + block_bytes p ≤ length chip) where
  blank : List ℕ
  blank = on_chip p chip (erase n)

  blank_ran : Ran p chip blank n (erased_block p)
  unfolding blank replay_chip
  blank_ran = erase_ran p chip n fits

  blank_fits : n * block_bytes p + block_bytes p ≤ length blank
  blank_fits = rw blank_ran.size fits

  pub left_ran : (t : Bool) → Ran p chip (replay_chip p chip (erase n ∷ cond t (mark n ∷ []) [])) n (left_block p t)
  left_ran true =
      let m = mark_ran p z blank n blank_fits in
      unfold replay_chip left_block blank in record { here = m.here ∙ ap (marked_block p) blank_ran.here; else = λ i ne. m.else i ne ∙ blank_ran.else i ne; size = m.size ∙ blank_ran.size }
  left_ran false = unfold left_block in erase_ran p chip n fits

  left_clean : (t : Bool) → clean p chip (erase n ∷ cond t (mark n ∷ []) []) ≡ true
  left_clean true = unfold clean blank in blank_clean p z blank n blank_fits (rw blank_ran.here (fresh_all p))
  left_clean false = unfold clean in refl

  -- of the two
  pub wear_out_ran : (wear : List ℕ) → Ran p chip (replay_chip p chip (erase_ops p wear n)) n (left_block p (worn p wear n))
  unfolding erase_ops
  wear_out_ran wear = left_ran (worn p wear n)

  pub wear_out_clean : (wear : List ℕ) → clean p chip (erase_ops p wear n) ≡ true
  unfolding erase_ops
  wear_out_clean wear = left_clean (worn p wear n)

-- a mark counts no erase
pub wear_out_wear : (p : Params) (wear : List ℕ) (n : ℕ) (wear₁ : List ℕ) → replay_wear wear₁ (erase_ops p wear n) ≡ on_wear wear₁ (erase n)
unfolding erase_ops
wear_out_wear p wear n wear₁ = go (worn p wear n)
  where
    go : (t : Bool) → replay_wear wear₁ (erase n ∷ cond t (mark n ∷ []) []) ≡ on_wear wear₁ (erase n)
    go true = unfold replay_wear on_wear in refl
    go false = unfold replay_wear in refl

-- ---- a part of it

-- the first k of its operations are none, the erase, or all
pub first_ops : (p : Params) (wear : List ℕ) (n k : ℕ)
    → (take k (erase_ops p wear n) ≡ []) ⊎ ((take k (erase_ops p wear n) ≡ erase n ∷ []) ⊎ (take k (erase_ops p wear n) ≡ erase_ops p wear n))
unfolding erase_ops
first_ops p wear n zero = inl refl
first_ops p wear n (suc zero) = inr (inl refl)
first_ops p wear n (suc (suc k)) = inr (inr (take_all (suc (suc k)) (erase n ∷ cond (worn p wear n) (mark n ∷ []) []) (few (worn p wear n))))
  where
    few : (t : Bool) → length (erase n ∷ cond t (mark n ∷ []) []) ≤ suc (suc k)
    few true = omega arith
    few false = omega arith

-- none of them is of another block
pub first_else : (p : Params) → Sizes p → (chip : List ℕ) (n : ℕ) → n * block_bytes p + block_bytes p ≤ length chip → (wear : List ℕ) (k m : ℕ) → (m ≡ n → ⊥)
    → block p (replay_chip p chip (take k (erase_ops p wear n))) m ≡ block p chip m
first_else p z chip n fits wear k m ne = go (first_ops p wear n k)
  where
    go : (take k (erase_ops p wear n) ≡ []) ⊎ ((take k (erase_ops p wear n) ≡ erase n ∷ []) ⊎ (take k (erase_ops p wear n) ≡ erase_ops p wear n))
        → block p (replay_chip p chip (take k (erase_ops p wear n))) m ≡ block p chip m
    go (inl e) = rw e (unfold replay_chip in refl)
    go (inr (inl e)) = rw e ((erase_ran p chip n fits).else m ne)
    go (inr (inr e)) = rw e ((wear_out_ran p z chip n fits wear).else m ne)

-- ---- the counts

pub wear_out_counts : (p : Params) (wear : List ℕ) (n : ℕ) → (programs_in (erase_ops p wear n) ≡ 0) × (erases_in (erase_ops p wear n) ≡ 1)
unfolding erase_ops
wear_out_counts p wear n = go (worn p wear n)
  where
    go : (t : Bool) → (programs_in (erase n ∷ cond t (mark n ∷ []) []) ≡ 0) × (erases_in (erase n ∷ cond t (mark n ∷ []) []) ≡ 1)
    go true = unfold programs_in erases_in is_program is_erase in (refl, refl)
    go false = unfold programs_in erases_in is_program is_erase in (refl, refl)

pub wear_out_long : (p : Params) (wear : List ℕ) (n : ℕ) → length (erase_ops p wear n) ≡ 1 + cond (worn p wear n) 1 0
unfolding erase_ops
wear_out_long p wear n = go (worn p wear n)
  where
    go : (t : Bool) → length (erase n ∷ cond t (mark n ∷ []) []) ≡ 1 + cond t 1 0
    go true = refl
    go false = refl

-- ---- the word

-- the wear of the block once it is erased
erased_wear : (wear : List ℕ) (n : ℕ) → n < length wear → wear_at (on_wear wear (erase n)) n ≡ min (wear_at wear n + 1) 4294967295
unfolding on_wear wear_at
erased_wear wear n low = get_or-set_same wear n (min (get_or wear n 0 + 1) 4294967295) 0 low

pub left_wear : (p : Params) (wear : List ℕ) (n : ℕ) → n < length wear → wear_at (replay_wear wear (erase_ops p wear n)) n ≡ min (wear_at wear n + 1) 4294967295
left_wear p wear n low = ap (λ (w : List ℕ). wear_at w n) (wear_out_wear p wear n wear) ∙ erased_wear wear n low

pub worn_exactly : WornExactly
unfolding worn
worn_exactly p wear n fine low =
    let z = sizes p fine in
    let left = left_wear p wear n low in
    (λ h. rw left (omega (arith, leb-true p.E (wear_at wear n + 1) h, z.rated_high)), λ h. le-leb p.E (wear_at wear n + 1) (omega (arith, rw left at h)))
