-- `check_marks::marks_ok`: no mark without a block, else those of valid frames of its block.
-- Assumes nothing.
use mathlib.Core.Path.{refl}
use native.Mathlib.Omega.{arith}
use Rattle.check_marks.specs.Shown.{marks_valid}
use Rattle.check_marks.proofs.Asked.{none_valid, shows}
use Rattle.check_marks.proofs.marks_ok.Goals as goal

pub returns-in_default : goal.returns-in_default
returns-in_default c = none_valid _ _ _ _ _ _ _ c.requires _ refl c.in_default.ensures _ c.none_ok.ensures

pub returns : goal.returns
unfolding marks_valid
returns c = c.held_ok.ensures _ (shows _ _ _ _ _ _ _ c.requires _ c.in-Some.ensures.0 (λ e. omega (arith, c.in-Some.ensures.1)) _ c.block_of.ensures.result_value)
