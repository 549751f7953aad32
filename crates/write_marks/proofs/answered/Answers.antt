-- `write_marks::answered`: α and the copies are few, so the product fits.
-- Assumes nothing.
use Prim.Native.Nat.{◌+◌, ◌*◌, ◌≤◌}
use native.Mathlib.Nat.{mul-le-mul, lt_of_le_of_lt}
use native.Mathlib.Omega.{arith}
use Rattle.write_marks.proofs.answered.Goals as goal
use Rattle.write_marks.proofs.answered.Goals.{Start}

product : (a : Start) → a.args.p.alpha * (a.args.copied + 1) ≤ 16 * 256
product a =
    let k : a.args.copied + 1 ≤ 256 = omega (arith, a.requires.copied_bound) in
    mul-le-mul a.requires.alpha_bound k

pub overflow_mul-result : goal.overflow_mul-result
overflow_mul-result c = record { fits = lt_of_le_of_lt (product (goal.at.overflow_mul-result c).Start) (omega arith) }

pub overflow_cast-result : goal.overflow_cast-result
overflow_cast-result c = record { fits = lt_of_le_of_lt (product (goal.at.overflow_cast-result c).Start) (omega arith) }
