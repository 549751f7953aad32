-- `chip_sizes::parameters_allowed`: the ranges first, so that no product of the other two tests is large.
-- Assumes nothing.
use mathlib.Core.Path.{◌≡◌}
use mathlib.Core.Bool.{true, false}
use Rattle.chip_sizes.specs.Checks.{in_ranges}
use Rattle.chip_sizes.proofs.Checks.{allowed_is}
use Rattle.chip_sizes.proofs.parameters_allowed.Goals as goal

pub are_tied-requires : goal.are_tied-requires
are_tied-requires c = cc

pub returns-then-in_ranges : goal.returns-then-in_ranges
returns-then-in_ranges c =
    let e : in_ranges c.args.p ≡ true = cc in
    rw (← (allowed_is c.args.p), e) c.are_tied.ensures

pub returns : goal.returns
returns c =
    let e : in_ranges c.args.p ≡ false = cc in
    rw (← (allowed_is c.args.p), e)
