-- `chip_marks::word_index`: the index lies in the table, so no step towards it wraps.
-- Assumes nothing.
use mathlib.Core.Path.{refl}
use Prim.Native.Nat.{◌<◌}
use native.Mathlib.Omega.{arith}
use Rattle.rules.proofs.Sizes.{sizes}
use Rattle.rules.specs.Tables.{mark_index, marks_length}
use Rattle.marks.proofs.Tables.{index_in}
use Rattle.chip_marks.proofs.word_index.Goals as goal
use Rattle.chip_marks.proofs.word_index.Goals.{Start}

inside : (a : Start) → mark_index a.args.p a.args.r a.args.v.0 a.args.w < marks_length a.args.p
inside a = index_in a.args.p a.args.r a.args.v.0 a.args.w a.requires.region a.requires.vblock a.requires.word

small : (a : Start) → mark_index a.args.p a.args.r a.args.v.0 a.args.w < 65536
small a = omega (arith, inside a, (sizes a.args.p a.requires.fine).table_high)

pub overflow_mul-result : goal.overflow_mul-result
overflow_mul-result c = omega (arith, small (goal.at.overflow_mul-result c).Start)

pub overflow_add-result : goal.overflow_add-result
overflow_add-result c = omega (arith, small (goal.at.overflow_add-result c).Start)

pub overflow_mul-result-2 : goal.overflow_mul-result-2
overflow_mul-result-2 c = omega (arith, small (goal.at.overflow_mul-result-2 c).Start)

pub overflow_add-result-2 : goal.overflow_add-result-2
overflow_add-result-2 c = omega (arith, small (goal.at.overflow_add-result-2 c).Start)

pub returns : goal.returns
returns c =
    record {
      value = refl;
      upper_bound = inside (goal.at.returns c).Start;
    }
