-- The marks of a virtual block are as many as its valid frames, since none stands from F up; so the fewest marks choose the victim. A virtual
-- block without a physical block has none, since a valid frame is programmed.
-- Assumes nothing.
use mathlib.Core.Path.{◌≡◌, refl, sym, ◌∙◌}
use Prim.Native.Nat.{ℕ, zero, suc, ◌≤◌}
use native.Mathlib.Nat.{add-zero}
use native.Mathlib.Omega.{arith}
use native.Mathlib.Decide.{ℕ_discrete}
use mathlib.Core.Bool.{Bool, true, false, ◌&&◌, and-false}
use mathlib.Core.List.{List, [], ◌∷◌}
use lib.Dec.{ltb}
use lib.ListN.{length}
use borrow.Author.Tests.{le-ltb, lt-ltb, ltb-false}
use Rattle.lists.specs.Below.{count_below, least_below}
use Rattle.lists.specs.Parts.{all_are}
use Rattle.lists.proofs.Joins.{all_are_part}
use Rattle.lists.proofs.Ranks.{keep_length}
use Rattle.lists.proofs.Tests.{count_cong}
use Rattle.rules.specs.declared.Params.{Params}
use Rattle.rules.specs.Pages.{frame}
use Rattle.rules.specs.Parameters.{allowed, frame_bytes, frames}
use Rattle.rules.specs.Regions.{View, assigned, valid, valid_frames}
use Rattle.rules.specs.Tables.{none}
use Rattle.rules.specs.Write.{victim}
use Rattle.rules.proofs.Frames.{erased_not}
use Rattle.rules.proofs.Sizes.{sizes}
use Rattle.rules.specs.Marks.{marked}

-- of what passes, what is below k too
count_part : (k n : ℕ) (g : ℕ → Bool) → k ≤ n → count_below n (λ i. ltb i k && g i) ≡ count_below k g
count_part k zero g h = let e : k ≡ 0 = omega arith in rw e (unfold count_below in refl)
count_part k (suc n) g h = go (ℕ_discrete k (suc n)) (λ l. count_part k n g l)
  where
    go : Dec (k ≡ suc n) → (k ≤ n → count_below n (λ i. ltb i k && g i) ≡ count_below k g) → count_below (suc n) (λ i. ltb i k && g i) ≡ count_below k g
    go (yes e) below = rw e (count_cong (suc n) (λ i. ltb i (suc n) && g i) g (λ i l. rw (lt-ltb i (suc n) l)))
    go (no e) below = unfold count_below in rw (le-ltb n k (omega arith)) (add-zero _ ∙ below (omega arith))

pub marks_counted : (p : Params) → allowed p ≡ true → (vw : View) (v : ℕ) → count_below 256 (marked p vw v) ≡ length (valid_frames p vw v)
unfolding marked valid_frames
marks_counted p fine vw v = count_part (frames p) 256 (valid p vw v) (sizes p fine).short ∙ sym (keep_length (frames p) (valid p vw v))

pub victim_counted : (p : Params) → allowed p ≡ true → (vw : View) → victim p vw ≡ least_below (λ v. count_below 256 (marked p vw v)) none p.gamma (λ v. true)
unfolding victim
victim_counted p fine vw = simp (marks_counted p fine vw)

-- ---- blocks without a programmed frame

-- neither an erased block nor a virtual block without a physical block has a valid frame
pub erased_invalid : (p : Params) (vw : View) (v f : ℕ) → all_are 255 (vw.body v) ≡ true → valid p vw v f ≡ false
unfolding valid
erased_invalid p vw v f h = rw (erased_not p (frame p (vw.body v) f) (unfold frame in all_are_part 255 (frame_bytes p) f (vw.body v) h))

pub unassigned_invalid : (p : Params) (vw : View) (v f : ℕ) → assigned vw v ≡ false → valid p vw v f ≡ false
unfolding assigned
unassigned_invalid p vw v f h = erased_invalid p vw v f (empty (vw.body v) (ltb-false _ _ h))
  where
    empty : (l : List ℕ) → length l ≤ 0 → all_are 255 l ≡ true
    empty [] k = unfold all_are in refl
    empty (x ∷ l) k = absurd (omega arith)

pub unassigned_unmarked : (p : Params) (vw : View) (v : ℕ) → assigned vw v ≡ false → (f : ℕ) → marked p vw v f ≡ false
unfolding marked
unassigned_unmarked p vw v h f = rw (unassigned_invalid p vw v f h) (and-false (ltb f (frames p)))
