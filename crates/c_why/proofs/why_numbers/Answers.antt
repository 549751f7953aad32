-- `c_why::why_numbers`: case by case; each number fits, as was asked.
-- Assumes nothing.
use mathlib.Core.Path.{ap}
use mathlib.Core.List.{List, [], ◌∷◌, ◌++◌}
use Prim.Native.Nat.{ℕ}
use Rattle.call_why.specs.Why.{forecast_numbers, numbers_of, place_numbers}
use Rattle.c_why.proofs.Numbers.{reads_four, small_front}
use Rattle.c_why.proofs.why_numbers.Goals as goal

pub forecast_numbers-f-requires : goal.forecast_numbers-f-requires
unfolding numbers_of
forecast_numbers-f-requires c = small_front (forecast_numbers c.in-Empty.fc) (0 ∷ []) (rw c.in-Empty.is at c.requires).1.1.1.1.1.1.1.1

pub forecast_numbers-f-requires-in-Held : goal.forecast_numbers-f-requires-in-Held
unfolding numbers_of place_numbers
forecast_numbers-f-requires-in-Held c = small_front (forecast_numbers c.in-Held.fc) (c.in-Held.looks ∷ []) (rw c.in-Held.is at c.requires).1.1.1.1.1.1.1.1

pub overflow_cast-result : goal.overflow_cast-result
unfolding numbers_of place_numbers
overflow_cast-result c = record { fits = (rw c.in-Held.is at c.requires).1.1.1.0 }

pub overflow_cast-result-in-Held : goal.overflow_cast-result-in-Held
unfolding numbers_of place_numbers
overflow_cast-result-in-Held c = record { fits = (rw c.in-Held.is at c.requires).1.1.1.1.0 }

pub overflow_cast-result-in-Held-2 : goal.overflow_cast-result-in-Held-2
unfolding numbers_of place_numbers
overflow_cast-result-in-Held-2 c = record { fits = (rw c.in-Held.is at c.requires).1.1.1.1.1.0 }

pub overflow_cast-result-in-Held-3 : goal.overflow_cast-result-in-Held-3
unfolding numbers_of place_numbers
overflow_cast-result-in-Held-3 c = record { fits = (rw c.in-Held.is at c.requires).1.1.1.1.1.1.0 }

pub overflow_cast-result-in-Held-4 : goal.overflow_cast-result-in-Held-4
unfolding numbers_of place_numbers
overflow_cast-result-in-Held-4 c = record { fits = (rw c.in-Held.is at c.requires).1.1.1.1.1.1.1.0 }

pub returns-in-Refused : goal.returns-in-Refused
unfolding numbers_of
returns-in-Refused c = rw (c.in-Refused.is, c.from.ensures)

pub returns-in-Disordered : goal.returns-in-Disordered
unfolding numbers_of
returns-in-Disordered c = rw (c.in-Disordered.is, c.from-in-Disordered.ensures)

pub returns-in-Empty : goal.returns-in-Empty
unfolding numbers_of
returns-in-Empty c = rw c.in-Empty.is (ap (λ (x : List ℕ). 0 ∷ 0 ∷ 0 ∷ 0 ∷ 0 ∷ 0 ∷ 0 ∷ 0 ∷ x ++ (0 ∷ [])) (reads_four _ _ c.forecast_numbers-f.ensures))

pub returns-in-Held : goal.returns-in-Held
unfolding numbers_of place_numbers
returns-in-Held c = rw (c.in-Held.is, ← (reads_four _ _ c.forecast_numbers-f-in-Held.ensures))
