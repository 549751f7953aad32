-- The flat list of requests, as a list of items: how many there are, and which stands at a place.
-- Assumes nothing.
use mathlib.Core.Path.{◌≡◌, refl, sym, ap, ◌∙◌}
use mathlib.Core.List.{List, [], ◌∷◌}
use Prim.Native.Nat.{ℕ, zero, suc, ◌+◌, ◌*◌, ◌/◌, ◌≤◌}
use native.Mathlib.Omega.{arith}
use lib.ListN.{drop, get_or, length}
use Rattle.rules.specs.declared.Item.{Item}
use Rattle.c_queue.specs.Flat.{items_of, request_at}

pub items_length : (l : List ℕ) → length (items_of l) ≡ length l / 3
items_length [] = omega arith
items_length (a ∷ []) = omega arith
items_length (a ∷ b ∷ []) = omega arith
items_length (a ∷ b ∷ c ∷ l) = let e = items_length l in omega arith

-- the items from the i-th on begin with the i-th
pub items_at : (l : List ℕ) (i : ℕ) → 3 * i + 3 ≤ length l → drop i (items_of l) ≡ request_at l i ∷ drop (suc i) (items_of l)
unfolding request_at
items_at [] i h = absurd (omega arith)
items_at (a ∷ []) i h = absurd (omega arith)
items_at (a ∷ b ∷ []) i h = absurd (omega arith)
items_at (a ∷ b ∷ c ∷ l) zero h = refl
items_at (a ∷ b ∷ c ∷ l) (suc i) h = items_at l i (omega arith) ∙ ap {B = List Item} (λ it. it ∷ drop (suc i) (items_of l)) (later i)
  where
    -- three numbers further
    at : (j k : ℕ) → k ≡ suc (suc (suc j)) → get_or l j 0 ≡ get_or (a ∷ b ∷ c ∷ l) k 0
    at j k e = ap (λ (n : ℕ). get_or (a ∷ b ∷ c ∷ l) n 0) (sym e)

    later : (i : ℕ) → request_at l i ≡ request_at (a ∷ b ∷ c ∷ l) (suc i)
    later i =
        unfold request_at in
        rw (at (3 * i) (3 * suc i) (omega arith), at (3 * i + 1) (3 * suc i + 1) (omega arith), at (3 * i + 2) (3 * suc i + 2) (omega arith))
