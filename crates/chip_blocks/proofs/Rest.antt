-- The parts of a list from one on: all of them are x exactly if the rest of the list is.
-- Assumes nothing.
use mathlib.Core.Path.{◌≡◌, ap, sym}
use mathlib.Core.Logic.{◌⊎◌, inl, inr}
use mathlib.Core.Bool.{false, true}
use mathlib.Core.List.{List}
use Prim.Native.Nat.{ℕ, zero, suc, ◌*◌, ◌+◌, ◌-◌, ◌<◌, ◌≤◌}
use native.Mathlib.Nat.{add-mul, zero-mul}
use native.Mathlib.Omega.{arith}
use lib.ListN.{drop, length, length-drop, take}
use lib.Seq.{take_all}
use Rattle.lists.specs.Parts.{all_are, part}
use Rattle.lists.proofs.Tests.{never, so}
use Rattle.loops.proofs.Elements.{parts_fail, parts_more, part_from}

-- where everything from part k on is x, so is each part from there on
pub parts_from : (x w k : ℕ) (l : List ℕ) → all_are x (drop (k * w) l) ≡ true → (i : ℕ) → k ≤ i → all_are x (part w i l) ≡ true
parts_from x w k l h i le = go (so (all_are x (part w i l)))
  where
    go : (all_are x (part w i l) ≡ true) ⊎ (all_are x (part w i l) ≡ false) → all_are x (part w i l) ≡ true
    go (inl e) = e
    go (inr e) =
        let at : k + (i - k) ≡ i = omega arith in
        absurd (never h (sym (parts_fail x w (i - k) (drop (k * w) l) (rw (part_from w k (i - k) l, at) e))))

-- and back, where there are n parts
parts_upto : (x w n : ℕ) (l : List ℕ) → ((i : ℕ) → i < n → all_are x (part w i l) ≡ true) → all_are x (take (n * w) l) ≡ true
unfolding all_are
parts_upto x w zero l h = rw (zero-mul w)
parts_upto x w (suc n) l h =
    let e : n + 1 ≡ suc n = omega arith in
    rw e at (parts_more x w n l (parts_upto x w n l (λ i a. h i (omega arith))) (h n (omega arith)))

pub parts_back : (x w k n : ℕ) (l : List ℕ) → k ≤ n → length l ≡ n * w → ((i : ℕ) → k ≤ i → i < n → all_are x (part w i l) ≡ true) → all_are x (drop (k * w) l) ≡ true
parts_back x w k n l le size h =
    let up = parts_upto x w (n - k) (drop (k * w) l) (λ i a. rw (part_from w k i l) (h (k + i) (omega arith) (omega arith))) in
    let e : n * w ≡ k * w + (n - k) * w = rw (← (add-mul k (n - k) w)) (ap (λ (m : ℕ). m * w) (omega arith)) in
    rw (take_all ((n - k) * w) (drop (k * w) l) (rw length-drop (omega (arith, size, e)))) at up
