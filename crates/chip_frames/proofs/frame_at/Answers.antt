-- `chip_frames::frame_at`: N · F is small, so nothing wraps.
-- Assumes nothing.
use mathlib.Core.Path.{◌≡◌}
use Prim.Native.Nat.{ℕ, ◌+◌, ◌*◌, ◌≤◌}
use native.Mathlib.Nat.{mul-le-mul, lt_of_le_of_lt}
use native.Mathlib.Omega.{arith}
use Rattle.rules.specs.Parameters.{frames}
use Rattle.rules.proofs.Sizes.{sizes}
use Rattle.chip_frames.proofs.frame_at.Goals as goal
use Rattle.chip_frames.proofs.frame_at.Goals.{Start}

product : (a : Start) (m : ℕ) → m ≡ frames a.args.p → a.args.n.0 * m ≤ 65535 * 256
product a m e =
    let z = sizes a.args.p a.requires.p_value in
    let k : a.args.n.0 ≤ 65535 = omega (arith, a.requires.n_lt_n, z.blocks) in
    let l : m ≤ 256 = omega (arith, z.short) in
    mul-le-mul k l

total : (a : Start) (m : ℕ) → m ≡ frames a.args.p → a.args.n.0 * m + a.args.f ≤ 65535 * 256 + 256
total a m e = omega (arith, product a m e, a.requires.f_bound, (sizes a.args.p a.requires.p_value).short)

pub overflow_mul-result : goal.overflow_mul-result
overflow_mul-result c = record { fits = lt_of_le_of_lt (product (goal.at.overflow_mul-result c).Start _ c.frames-m.ensures) (omega arith) }

pub overflow_add-result : goal.overflow_add-result
overflow_add-result c = record { fits = lt_of_le_of_lt (total (goal.at.overflow_add-result c).Start _ c.frames-m.ensures) (omega arith) }

pub returns : goal.returns
returns c = rw c.frames-m.ensures
