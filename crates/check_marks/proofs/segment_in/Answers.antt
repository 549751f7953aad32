-- `check_marks::segment_in`: v·d and k are small, by the table of allowed parameters.
-- Assumes nothing.
use Prim.Native.Nat.{◌*◌, ◌≤◌}
use native.Mathlib.Nat.{mul-le-mul, lt_of_le_of_lt}
use native.Mathlib.Omega.{arith}
use Rattle.rules.proofs.Sizes.{sizes}
use Rattle.check_marks.proofs.segment_in.Goals as goal
use Rattle.check_marks.proofs.segment_in.Goals.{After-struct_known-2-1}

product : (c : After-struct_known-2-1) → c.args.v.0 * c.args.p.d ≤ 16 * 16
product c =
    let z = sizes _ c.requires.p_value in
    let k : c.args.v.0 ≤ 16 = omega (arith, z.gamma_high, c.requires.v_lt_gamma) in
    mul-le-mul k z.d_high

pub overflow_mul-result : goal.overflow_mul-result
overflow_mul-result c = record { fits = lt_of_le_of_lt (product (goal.at.overflow_mul-result c).After-struct_known-2-1) (omega arith) }

pub overflow_add-result : goal.overflow_add-result
overflow_add-result c = omega (arith, product (goal.at.overflow_add-result c).After-struct_known-2-1, c.requires.k_lt_d, (sizes _ c.requires.p_value).d_high)
