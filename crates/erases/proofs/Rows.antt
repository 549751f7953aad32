-- A row of writes by the room that each finds: one that does not erase takes at most one frame of it, one that erases finds none and leaves g − 1 frames or more.
-- By induction over the row, g times its erases are at most its writes and g − 1 more.
-- Assumes nothing.
use Prim.Native.Nat.{ℕ, ◌+◌, ◌-◌, ◌*◌, ◌≤◌, ◌<◌}
use mathlib.Core.Path.{◌≡◌}
use mathlib.Core.Logic.{◌⊎◌, inl, inr}
use mathlib.Core.List.{List, [], ◌∷◌, ◌++◌}
use native.Mathlib.Nat.{le-div_iff_mul-le}
use native.Mathlib.Omega.{arith}
use lib.ListN.{length}
use Rattle.erases.specs.Erases.{rounded_up, total}

-- a write that finds this room, reports e erases and leaves the room `next`
abbrev pub Turn : ℕ → ℕ → ℕ → ℕ → Type 0
Turn g room e next = ((e ≡ 0) × (room ≤ next + 1)) ⊎ ((e ≡ 1) × (room ≡ 0) × (g ≤ next + 1))

-- the erases of writes one after the other, from this room on
abbrev pub Spaced : ℕ → ℕ → List ℕ → Type 0
Spaced g room [] = Unit {0}
Spaced g room (e ∷ es) = (next : ℕ) × Turn g room e next × Spaced g next es

-- more room does no harm
pub less_room : (g small large : ℕ) (es : List ℕ) → small ≤ large → Spaced g large es → Spaced g small es
less_room g small large [] h s = tt
less_room g small large (e ∷ es) h s = (s.0, go s.1, s.2)
  where
    go : Turn g large e s.0 → Turn g small e s.0
    go (inl t) = inl (t.0, omega arith)
    go (inr t) = inr (t.0, omega arith, t.2)

-- the first ones of a row
first_few : (g room : ℕ) (row later : List ℕ) → 0 < g → Spaced g room (row ++ later) → g * total row ≤ length row + (g - 1) - room
unfolding total
first_few g room [] later h s = omega arith
first_few g room (e ∷ row) later h s = go s.1 (first_few g s.0 row later h s.2)
  where
    go : Turn g room e s.0 → g * total row ≤ length row + (g - 1) - s.0 → g * (e + total row) ≤ length (e ∷ row) + (g - 1) - room
    go (inl t) below = rw t.0 (omega (arith, t.1))
    go (inr t) below = rw t.0 (omega (arith, t.1, t.2))

-- and any in a row
in_a_row : (g room : ℕ) (earlier row later : List ℕ) → 0 < g → Spaced g room (earlier ++ (row ++ later)) → g * total row ≤ length row + (g - 1)
in_a_row g room [] row later h s = omega (arith, first_few g room row later h s)
in_a_row g room (e ∷ earlier) row later h s = in_a_row g s.0 earlier row later h s.2

pub few_erases : (g room : ℕ) (earlier row later : List ℕ) → 0 < g → Spaced g room (earlier ++ (row ++ later)) → total row ≤ rounded_up (length row) g
unfolding rounded_up
few_erases g room earlier row later h s = (le-div_iff_mul-le h).1 (omega (arith, in_a_row g room earlier row later h s))
