-- Two outcomes that the claim of a call allows, with a budget or without, are equal: the claim names the whole outcome.
-- Assumes nothing.
use mathlib.Core.Path.{sym, ◌∙◌}
use Rattle.claims.specs.Conditions.{Once}

pub once : Once
once p b s o o' e e' = e ∙ sym e'
