-- A forecast has four numbers and an answer thirteen.
-- Assumes nothing.
use mathlib.Core.Path.{◌≡◌, refl}
use mathlib.Core.List.{List, [], ◌∷◌, ◌++◌}
use Prim.Native.Nat.{ℕ}
use lib.ListN.{get_or, length}
use Rattle.call_why.specs.declared.Forecast.{Forecast}
use Rattle.call_why.specs.declared.Forecast.TheVariants.{Continues, NoBlock, NoStamp, Opens, Reclaims}
use Rattle.call_why.specs.declared.Why.{Why}
use Rattle.call_why.specs.declared.Why.TheVariants.{Disordered, Empty, Held, Refused}
use Rattle.call_why.specs.Why.{Small, forecast_numbers, numbers_of, place_numbers}

pub four : (fc : Forecast) → get_or (forecast_numbers fc) 0 0 ∷ get_or (forecast_numbers fc) 1 0 ∷ get_or (forecast_numbers fc) 2 0 ∷ get_or (forecast_numbers fc) 3 0 ∷ [] ≡ forecast_numbers fc
unfolding forecast_numbers
four (Continues v f) = refl
four (Opens v) = refl
four (Reclaims v n) = refl
four NoStamp = refl
four NoBlock = refl

pub reads_four : (fc : Forecast) (l : List ℕ) → l ≡ forecast_numbers fc → get_or l 0 0 ∷ get_or l 1 0 ∷ get_or l 2 0 ∷ get_or l 3 0 ∷ [] ≡ forecast_numbers fc
reads_four fc l e = rw e (four fc)

-- an answer has thirteen numbers
pub thirteen : (w : Why) → length (numbers_of w) ≡ 13
unfolding numbers_of place_numbers forecast_numbers
thirteen (Refused r) = refl
thirteen (Disordered k) = refl
thirteen (Empty (Continues v f)) = refl
thirteen (Empty (Opens v)) = refl
thirteen (Empty (Reclaims v n)) = refl
thirteen (Empty NoStamp) = refl
thirteen (Empty NoBlock) = refl
thirteen (Held at (Continues v f) looks) = refl
thirteen (Held at (Opens v) looks) = refl
thirteen (Held at (Reclaims v n) looks) = refl
thirteen (Held at NoStamp looks) = refl
thirteen (Held at NoBlock looks) = refl

-- the numbers of a part of a list are small
pub small_front : (xs ys : List ℕ) → Small (xs ++ ys) → Small xs
small_front [] ys h = tt
small_front (x ∷ xs) ys h = (h.0, small_front xs ys h.1)
