-- `format_work::reserve_bad`: after n turns the first n entries are made.
-- Assumes nothing.
use mathlib.Core.Path.{◌≡◌}
use mathlib.Core.Bool.{cond}
use lib.ListN.{get_or}
use Rattle.loops.proofs.Tables.{made_to}
use Rattle.rules.specs.Format.{bad}
use Rattle.format_work.proofs.reserve_bad.Given as goal

abbrev pub invariant-loop-n : goal.invariant-loop-n
invariant-loop-n l = l.bst ≡ made_to l.p.N (λ n'. cond (bad l.p l.chip n') 2 0) (λ n'. get_or l.initial.bst n' 0) l.n
