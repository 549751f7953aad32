-- `check_marks::first_place`: 0 divided by β is 0.
-- Assumes nothing.
use mathlib.Core.Path.{sym}
use native.Mathlib.Nat.{zero-div}
use native.Mathlib.Omega.{arith}
use Rattle.rules.proofs.Sizes.{sizes}
use Rattle.check_marks.proofs.first_place.Goals as goal

pub returns-then-w-eq0 : goal.returns-then-w-eq0
returns-then-w-eq0 c = rw c.if-w-eq0.true (sym (zero-div _))

pub nonzero_div-result : goal.nonzero_div-result
nonzero_div-result c = omega (arith, (sizes _ c.requires.p_value).per_segment)
