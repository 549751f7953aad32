-- `bits::count`: the machine counts the ones, which are the marks.
-- Assumes nothing.
use Prim.Native.Nat.{◌≤◌}
use native.Mathlib.Omega.{arith}
use lib.Count.{ones, ones-le}
use Rattle.bits.proofs.Words.{bits_count}
use Rattle.bits.proofs.count.Goals as goal
use Rattle.bits.proofs.count.Goals.{Start}

few : (c : Start) → ones c.args.word ≤ 64
few c = ones-le 64 c.args.word c.ranges.word.fits

pub overflow_cast-result : goal.overflow_cast-result
overflow_cast-result c = omega (arith, few (goal.at.overflow_cast-result c).Start)

pub returns : goal.returns
returns c =
    record {
      upper_bound = few (goal.at.returns c).Start;
      by_index = λ f e. rw e (bits_count 64 f);
    }
