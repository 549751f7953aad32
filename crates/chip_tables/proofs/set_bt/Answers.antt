-- `chip_tables::set_bt`: the index lies in BT.
-- Assumes nothing.
use Prim.Native.Nat.{◌*◌, ◌+◌, ◌<◌}
use native.Mathlib.Omega.{arith}
use lib.ListN.{length}
use Rattle.chip_tables.proofs.Indices.{entry_in}
use Rattle.chip_tables.proofs.set_bt.Goals as goal
use Rattle.chip_tables.proofs.set_bt.Goals.{Start}

inside : (a : Start) → a.args.r * a.args.p.gamma + a.args.v.0 < length a.args.bt.now
inside a = entry_in (length a.args.bt.now) a.args.p.mu a.args.p.gamma a.args.r a.args.v.0 a.requires.bt_len a.requires.r_lt_mu a.requires.v_lt_gamma

pub overflow_mul-i : goal.overflow_mul-i
overflow_mul-i c = omega (arith, inside (goal.at.overflow_mul-i c).Start)

pub overflow_add-i : goal.overflow_add-i
overflow_add-i c = omega (arith, inside (goal.at.overflow_add-i c).Start)

pub offset_bounds-bt-i : goal.offset_bounds-bt-i
offset_bounds-bt-i c = omega (arith, inside (goal.at.offset_bounds-bt-i c).Start)

pub bounds-bt-i : goal.bounds-bt-i
bounds-bt-i c = inside (goal.at.bounds-bt-i c).Start
