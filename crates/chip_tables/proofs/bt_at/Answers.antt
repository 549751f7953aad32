-- `chip_tables::bt_at`: the index lies in BT.
-- Assumes nothing.
use Prim.Native.Nat.{◌*◌, ◌+◌, ◌<◌}
use native.Mathlib.Omega.{arith}
use lib.ListN.{length}
use Rattle.rules.specs.Tables.{bt_at}
use Rattle.chip_tables.proofs.Indices.{entry_in}
use Rattle.chip_tables.proofs.bt_at.Goals as goal
use Rattle.chip_tables.proofs.bt_at.Goals.{Start}

inside : (a : Start) → a.args.r * a.args.p.gamma + a.args.v.0 < length a.args.bt.now
inside a = entry_in (length a.args.bt.now) a.args.p.mu a.args.p.gamma a.args.r a.args.v.0 a.requires.bt_len a.requires.r_lt_mu a.requires.v_lt_gamma

pub overflow_mul-i : goal.overflow_mul-i
overflow_mul-i c = omega (arith, inside (goal.at.overflow_mul-i c).Start)

pub overflow_add-i : goal.overflow_add-i
overflow_add-i c = omega (arith, inside (goal.at.overflow_add-i c).Start)

pub bt_entry-requires : goal.bt_entry-requires
bt_entry-requires c = omega (arith, inside (goal.at.bt_entry-requires c).Start)

pub returns : goal.returns
unfolding bt_at
returns c =
    record {
      result_value = c.bt_entry.ensures.result_value;
      result_bound = c.bt_entry.ensures.result_bound;
    }
