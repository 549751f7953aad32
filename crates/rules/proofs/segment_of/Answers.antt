-- `rules::segment_of` meets its contract: v·d and f / β are small, by the table of allowed parameters.
-- Assumes nothing.
use Prim.Native.Nat.{◌+◌, ◌*◌, ◌/◌, ◌<◌, ◌≤◌}
use native.Mathlib.Nat.{mul-le-mul, div-le_self, lt_of_le_of_lt}
use native.Mathlib.Omega.{arith}
use Rattle.rules.specs.declared.Params.{Params}
use Rattle.rules.proofs.Sizes.{Sizes, sizes}
use Rattle.rules.proofs.segment_of.Goals as goal

product : (p : Params) (v : _) → Sizes p → v < p.gamma → v * p.d ≤ 16 * 16
product p v z h =
    let k : v ≤ 16 = omega (arith, z.gamma_high) in
    mul-le-mul k z.d_high

total : (p : Params) (v f : _) → Sizes p → v < p.gamma → f < 256 → v * p.d + f / p.beta ≤ 512
total p v f z h k = omega (arith, product p v z h, div-le_self f p.beta)

pub overflow_mul-result : goal.overflow_mul-result
overflow_mul-result c = record { fits = lt_of_le_of_lt (product c.args.p c.args.v.0 (sizes _ c.requires.p_value) c.requires.v_lt_gamma) (omega arith) }

pub nonzero_div-result : goal.nonzero_div-result
nonzero_div-result c = (sizes _ c.requires.p_value).per_segment

pub overflow_add-result : goal.overflow_add-result
overflow_add-result c = record { fits = lt_of_le_of_lt (total c.args.p c.args.v.0 c.args.f (sizes _ c.requires.p_value) c.requires.v_lt_gamma c.requires.f_bound) (omega arith) }
