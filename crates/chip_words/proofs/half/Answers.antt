-- `chip_words::half`: the sum, byte by byte.
-- Assumes nothing.
use native.Mathlib.Omega.{arith}
use Rattle.chip_words.proofs.Words.{four_bytes}
use Rattle.chip_words.proofs.half.Goals as goal

pub returns : goal.returns
returns c =
    record {
      value = omega (arith, four_bytes c.args.a c.args.part.now);
      upper_bound = omega arith;
    }
