-- `chip_spares::second_word`: the sum is the number of the bytes.
-- Assumes nothing.
use mathlib.Core.Path.{sym}
use native.Mathlib.Omega.{arith}
use Rattle.chip_spares.proofs.Words.{second_is}
use Rattle.chip_spares.proofs.second_word.Goals as goal

pub returns : goal.returns
returns c =
    record {
      by_index = λ a j. sym (second_is a j _ _ (omega (arith, c.struct_known-1.given.1.0)));
      vblock_bound = omega (arith, c.struct_known-1.given.1.1.0);
    }
