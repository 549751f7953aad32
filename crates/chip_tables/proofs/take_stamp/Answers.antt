-- `chip_tables::take_stamp`: the entry that is stored is the one that was read, and one more.
-- Assumes nothing.
use mathlib.Core.Path.{refl}
use native.Mathlib.Omega.{arith}
use Rattle.rules.specs.Tables.{stamp_at}
use Rattle.chip_tables.proofs.take_stamp.Goals as goal

pub overflow_add-t : goal.overflow_add-t
unfolding stamp_at
overflow_add-t c = omega (arith, c.requires.r_bound)

pub returns : goal.returns
unfolding stamp_at
returns c =
    record {
      value = refl;
      stamps_after = refl;
    }
