-- `check_marks::next_place`: k·β ≤ f < (k + 1)·β, so frame f + 1 begins the next place or is in the same.
-- Assumes nothing.
use Prim.Native.Nat.{◌+◌, ◌≤◌}
use native.Mathlib.Nat.{mul-le-mul, lt_of_le_of_lt}
use native.Mathlib.Omega.{arith}
use Rattle.rules.proofs.Sizes.{sizes}
use Rattle.check_marks.proofs.Tested.{place_few, place_more, place_same}
use Rattle.check_marks.proofs.next_place.Goals as goal

pub overflow_add-k : goal.overflow_add-k
overflow_add-k c = omega (arith, place_few _ _ _ c.requires.k_value c.requires.f_bound)

pub overflow_mul-k : goal.overflow_mul-k
overflow_mul-k c =
    let z = sizes _ c.requires.p_value in
    let k : c.args.k + 1 ≤ 256 = omega (arith, place_few _ _ _ c.requires.k_value c.requires.f_bound) in
    record { fits = lt_of_le_of_lt (mul-le-mul k z.beta_high) (omega arith) }

pub overflow_add-f : goal.overflow_add-f
overflow_add-f c = omega (arith, c.requires.f_bound)

pub overflow_add-result : goal.overflow_add-result
overflow_add-result c = omega (arith, place_few _ _ _ c.requires.k_value c.requires.f_bound)

pub returns-then-k-p : goal.returns-then-k-p
returns-then-k-p c = place_more _ _ _ (sizes _ c.requires.p_value).per_segment c.requires.k_value c.if-k-p.true

pub returns : goal.returns
returns c = place_same _ _ _ (sizes _ c.requires.p_value).per_segment c.requires.k_value c.if-k-p.false
