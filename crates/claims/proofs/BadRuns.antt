-- Which blocks are bad over any run, through any cuts. On operations that fit the chip and are clean a program changes no byte 5, an erase makes its block good and a mark makes it bad. No call erases
-- a bad block, so a bad one stays bad; and a call marks a block only once its wear is E, so one that becomes bad is worn out.
-- Assumes nothing.
use mathlib.Core.Path.{◌≡◌, refl, sym, ap, ◌∙◌}
use mathlib.Core.Logic.{◌⊎◌, inl, inr}
use Prim.Native.Nat.{ℕ, zero, suc, ◌+◌, ◌*◌, ◌≤◌, ◌<◌, min}
use native.Mathlib.Omega.{arith}
use native.Mathlib.Decide.{ℕ_discrete}
use mathlib.Core.Bool.{Bool, true, false, not, ◌&&◌, ◌||◌, cond, false≢true}
use mathlib.Core.List.{List, [], ◌∷◌, ◌++◌}
use lib.Dec.{eqb, leb}
use lib.ListN.{drop, get_or, length, length-replicate, length-set, replicate, set, take}
use lib.Seq.{get_or-set_other, get_or-set_same}
use borrow.Author.Tests.{eq-eqb, eqb-true, leb-true, ne_eqb}
use Rattle.lists.specs.Parts.{all_are, part}
use Rattle.lists.proofs.Joins.{all_are_drop, all_are_replicate}
use Rattle.lists.proofs.Tests.{and_left, and_right, or_neither, so}
use Rattle.rules.specs.declared.Params.{Params}
use Rattle.rules.specs.Parameters.{block_bytes, chip_bytes, page_bytes, pages}
use Rattle.rules.specs.Tables.{wear_at}
use Rattle.rules.specs.Pages.{block, page, spare}
use Rattle.rules.specs.Traces.{Op, clean, erase, mark, on_chip, on_wear, page_at, program, replay_chip, replay_wear}
use Rattle.rules.specs.Format.{bad, bad_mark}
use Rattle.rules.proofs.BadBytes.{blank_good, bytes_bad, erased_fifth}
use Rattle.rules.proofs.Replays.{block_size}
use Rattle.rules.proofs.MarkedBlocks.{mark_ran, marked_bad}
use Rattle.rules.proofs.Sizes.{Sizes, some_page}
use Rattle.rules.proofs.TableFacts.{chip_size}
use Rattle.lists.proofs.Parts.{next}
use Rattle.claims.specs.Runs.{AllFit, Fits, erases_block}
use Rattle.claims.proofs.Once.{erased_block_lem, op_length, other_block, page_of, program_other, program_same}

-- ---- what operations make of one block

-- whether block n is bad after them, if it was so before
unfoldable pub bad_after : ℕ → List Op → Bool → Bool
bad_after n [] t = t
bad_after n (program m q x ∷ os) t = bad_after n os t
bad_after n (erase m ∷ os) t = bad_after n os (cond (eqb m n) false t)
bad_after n (mark m ∷ os) t = bad_after n os (cond (eqb m n) true t)

-- an entry of a list, whatever stands behind its end
low_entry : (l : List ℕ) (i d e : ℕ) → i < length l → get_or l i d ≡ get_or l i e
low_entry [] i d e h = absurd (omega arith)
low_entry (x ∷ l) zero d e h = refl
low_entry (x ∷ l) (suc i) d e h = low_entry l i d e (omega arith)

module _ (p : Params) (z : Sizes p) (n : ℕ) (low : n < p.N) where
  fits_here : (chip : List ℕ) → length chip ≡ chip_bytes p → n * block_bytes p + block_bytes p ≤ length chip
  fits_here chip e = rw (e, chip_size p) (next (block_bytes p) n p.N low)

  -- a program of an erased page leaves byte 5 of each page
  fifth_same : (chip : List ℕ) (m q : ℕ) (x : List ℕ) → length chip ≡ chip_bytes p → Fits p (program m q x) → all_are 255 (part (page_bytes p) (page_at p m q) chip) ≡ true
      → (j : ℕ) → j < pages p → get_or (spare p (block p (on_chip p chip (program m q x)) n) j) 5 0 ≡ get_or (spare p (block p chip n) j) 5 0
  unfolding spare page block
  fifth_same chip m q x e f blank j h = go (ℕ_discrete (page_at p n j) (page_at p m q))
    where
      go : Dec (page_at p n j ≡ page_at p m q) → get_or (spare p (block p (on_chip p chip (program m q x)) n) j) 5 0 ≡ get_or (spare p (block p chip n) j) 5 0
      go (yes i) =
          let listed = f.3.5 in
          let new : get_or (drop p.s x) 5 0 ≡ 255 = low_entry (drop p.s x) 5 0 255 (omega (arith, listed.long)) ∙ listed.five in
          let after : get_or (spare p (block p (on_chip p chip (program m q x)) n) j) 5 0 ≡ 255 =
          rw (← page_of p (on_chip p chip (program m q x)) n j h, program_same p chip m q x e f n j i) new in
          let was : all_are 255 (spare p (block p chip n) j) ≡ true =
          all_are_drop 255 p.s (part (page_bytes p) j (part (block_bytes p) n chip)) (rw (← page_of p chip n j h, i) blank) in
          after ∙ sym (erased_fifth p (block p chip n) (block_size p chip n (fits_here chip e)) j h was)
      go (no i) = rw (← page_of p (on_chip p chip (program m q x)) n j h, program_other p chip m q x e f n j i, page_of p chip n j h)

  program_bad : (chip : List ℕ) (m q : ℕ) (x : List ℕ) → length chip ≡ chip_bytes p → Fits p (program m q x) → all_are 255 (part (page_bytes p) (page_at p m q) chip) ≡ true
      → bad p (on_chip p chip (program m q x)) n ≡ bad p chip n
  unfolding bad bad_mark
  program_bad chip m q x e f blank = rw (fifth_same chip m q x e f blank 0 (some_page p z)) (go (so (leb 2 (pages p))))
    where
      go : (leb 2 (pages p) ≡ true) ⊎ (leb 2 (pages p) ≡ false)
          → not (eqb (get_or (spare p (block p chip n) 0) 5 0) 255) || (leb 2 (pages p) && not (eqb (get_or (spare p (block p (on_chip p chip (program m q x)) n) 1) 5 0) 255))
          ≡ not (eqb (get_or (spare p (block p chip n) 0) 5 0) 255) || (leb 2 (pages p) && not (eqb (get_or (spare p (block p chip n) 1) 5 0) 255))
      go (inl t) = rw (fifth_same chip m q x e f blank 1 (omega (arith, leb-true 2 (pages p) t)))
      go (inr t) = rw t

  erase_bad : (chip : List ℕ) (m : ℕ) → length chip ≡ chip_bytes p → m < p.N → bad p (on_chip p chip (erase m)) n ≡ cond (eqb m n) false (bad p chip n)
  erase_bad chip m e h = go (ℕ_discrete n m)
    where
      go : Dec (n ≡ m) → bad p (on_chip p chip (erase m)) n ≡ cond (eqb m n) false (bad p chip n)
      go (yes i) =
          let is : block p (on_chip p chip (erase m)) n ≡ replicate (block_bytes p) 255 = rw i (erased_block_lem p chip m e h) in
          blank_good p (on_chip p chip (erase m)) n z (rw is (length-replicate (block_bytes p) 255)) (rw is (all_are_replicate 255 (block_bytes p))) ∙ rw (eq-eqb m n (sym i))
      go (no i) = bytes_bad p chip (on_chip p chip (erase m)) n (other_block p chip m e h n i) ∙ rw (ne_eqb m n (λ y. i (sym y)))

  mark_bad_is : (chip : List ℕ) (m : ℕ) → length chip ≡ chip_bytes p → m < p.N → bad p (on_chip p chip (mark m)) n ≡ cond (eqb m n) true (bad p chip n)
  mark_bad_is chip m e h = go (ℕ_discrete n m)
    where
      fits : m * block_bytes p + block_bytes p ≤ length chip
      fits = rw (e, chip_size p) (next (block_bytes p) m p.N h)

      go : Dec (n ≡ m) → bad p (on_chip p chip (mark m)) n ≡ cond (eqb m n) true (bad p chip n)
      go (yes i) = ap (bad p (on_chip p chip (mark m))) i ∙ marked_bad p z chip m fits ∙ rw (eq-eqb m n (sym i))
      go (no i) = bytes_bad p chip (on_chip p chip (mark m)) n ((mark_ran p z chip m fits).else n i) ∙ rw (ne_eqb m n (λ y. i (sym y)))

  -- so of a list of them
  pub bad_replay : (os : List Op) (chip : List ℕ) → length chip ≡ chip_bytes p → AllFit p os → clean p chip os ≡ true → bad p (replay_chip p chip os) n ≡ bad_after n os (bad p chip n)
  unfolding replay_chip clean bad_after
  bad_replay [] chip e f c = refl
  bad_replay (program m q x ∷ os) chip e f c =
      bad_replay os (on_chip p chip (program m q x)) (op_length p chip (program m q x) e f.0) f.1 (and_right (all_are 255 (part (page_bytes p) (page_at p m q) chip)) c)
      ∙ ap (bad_after n os) (program_bad chip m q x e f.0 (and_left (all_are 255 (part (page_bytes p) (page_at p m q) chip)) _ c))
  bad_replay (erase m ∷ os) chip e f c =
      bad_replay os (on_chip p chip (erase m)) (op_length p chip (erase m) e f.0) f.1 c ∙ ap (bad_after n os) (erase_bad chip m e f.0)
  bad_replay (mark m ∷ os) chip e f c =
      bad_replay os (on_chip p chip (mark m)) (op_length p chip (mark m) e f.0) f.1 (and_right (all_are 255 (part (page_bytes p) (page_at p m 0) chip)) c)
      ∙ ap (bad_after n os) (mark_bad_is chip m e f.0.0)

-- without an erase of it a bad block stays bad
pub stays_bad : (n : ℕ) (os : List Op) → erases_block n os ≡ false → bad_after n os true ≡ true
unfolding erases_block bad_after
stays_bad n [] h = refl
stays_bad n (program m q x ∷ os) h = stays_bad n os h
stays_bad n (erase m ∷ os) h = let w = or_neither (eqb m n) h in rw w.0 (stays_bad n os w.1)
stays_bad n (mark m ∷ os) h = rw (either (eqb m n)) (stays_bad n os h)
  where
    either : (t : Bool) → cond t true true ≡ true
    either true = refl
    either false = refl

-- ---- a mark of block n comes when the wear is E

abbrev pub MarksWorn : Params → ℕ → List ℕ → List Op → Type 0
MarksWorn p n wear [] = Unit {0}
MarksWorn p n wear (program m q x ∷ os) = MarksWorn p n wear os
MarksWorn p n wear (erase m ∷ os) = MarksWorn p n (on_wear wear (erase m)) os
MarksWorn p n wear (mark m ∷ os) = (m ≡ n → p.E ≤ wear_at wear n) × MarksWorn p n wear os

pub worn_append : (p : Params) (n : ℕ) (wear : List ℕ) (xs ys : List Op) → MarksWorn p n wear xs → MarksWorn p n (replay_wear wear xs) ys → MarksWorn p n wear (xs ++ ys)
unfolding replay_wear
worn_append p n wear [] ys h k = k
worn_append p n wear (program m q x ∷ xs) ys h k = worn_append p n wear xs ys h (unfold on_wear in k)
worn_append p n wear (erase m ∷ xs) ys h k = worn_append p n (on_wear wear (erase m)) xs ys h k
worn_append p n wear (mark m ∷ xs) ys h k = (h.0, worn_append p n wear xs ys h.1 (unfold on_wear in k))

pub worn_take : (p : Params) (n : ℕ) (wear : List ℕ) (k : ℕ) (os : List Op) → MarksWorn p n wear os → MarksWorn p n wear (take k os)
worn_take p n wear zero os h = tt
worn_take p n wear (suc k) [] h = tt
worn_take p n wear (suc k) (program m q x ∷ os) h = worn_take p n wear k os h
worn_take p n wear (suc k) (erase m ∷ os) h = worn_take p n (on_wear wear (erase m)) k os h
worn_take p n wear (suc k) (mark m ∷ os) h = (h.0, worn_take p n wear k os h.1)

module _ (p : Params) (z : Sizes p) (n : ℕ) where
  -- the wear does not fall below E again
  rated_kept : (wear : List ℕ) (m : ℕ) → n < length wear → p.E ≤ wear_at wear n → p.E ≤ wear_at (on_wear wear (erase m)) n
  unfolding on_wear wear_at
  rated_kept wear m low h = go (ℕ_discrete m n)
    where
      go : Dec (m ≡ n) → p.E ≤ get_or (set wear m (min (get_or wear m 0 + 1) 4294967295)) n 0
      go (yes e) = rw (e, get_or-set_same wear n (min (get_or wear n 0 + 1) 4294967295) 0 low) (omega (arith, h, z.rated_high))
      go (no e) = rw (get_or-set_other wear m n (min (get_or wear m 0 + 1) 4294967295) 0 (λ y. e (sym y))) h

  -- and where an erase brings it there it is there
  pub erased_rated : (wear : List ℕ) → n < length wear → p.E ≤ wear_at wear n + 1 → p.E ≤ wear_at (on_wear wear (erase n)) n
  unfolding on_wear wear_at
  erased_rated wear low h = rw (get_or-set_same wear n (min (get_or wear n 0 + 1) 4294967295) 0 low) (omega (arith, h, z.rated_high))

  -- a block that becomes bad by them is worn out
  pub new_worn : {A : Type 0} (os : List Op) (wear : List ℕ) (t : Bool) → n < length wear → MarksWorn p n wear os → (t ≡ true → A ⊎ (p.E ≤ wear_at wear n))
      → bad_after n os t ≡ true → A ⊎ (p.E ≤ wear_at (replay_wear wear os) n)
  unfolding bad_after replay_wear on_wear
  new_worn [] wear t low w inv h = inv h
  new_worn (program m q x ∷ os) wear t low w inv h = new_worn os wear t low w inv h
  new_worn {A} (erase m ∷ os) wear t low w inv h =
      new_worn os (on_wear wear (erase m)) (cond (eqb m n) false t) (rw length-set low) w (next_inv (eqb m n)) h
    where
      later : A ⊎ (p.E ≤ wear_at wear n) → A ⊎ (p.E ≤ wear_at (on_wear wear (erase m)) n)
      later (inl a) = inl a
      later (inr e) = inr (rated_kept wear m low e)

      next_inv : (s : Bool) → cond s false t ≡ true → A ⊎ (p.E ≤ wear_at (on_wear wear (erase m)) n)
      next_inv true e = absurd (false≢true e)
      next_inv false e = later (inv e)
  new_worn {A} (mark m ∷ os) wear t low w inv h = new_worn os wear (cond (eqb m n) true t) low w.1 (next_inv (so (eqb m n))) h
    where
      next_inv : (eqb m n ≡ true) ⊎ (eqb m n ≡ false) → cond (eqb m n) true t ≡ true → A ⊎ (p.E ≤ wear_at wear n)
      next_inv (inl s) e = inr (w.0 (eqb-true m n s))
      next_inv (inr s) e = inv (rw s at e)
