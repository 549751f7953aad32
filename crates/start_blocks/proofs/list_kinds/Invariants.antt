-- `start_blocks::list_kinds`: after n turns the first n entries are made.
-- Assumes nothing.
use mathlib.Core.Path.{◌≡◌}
use mathlib.Core.Bool.{cond}
use lib.ListN.{length, get_or}
use Rattle.loops.proofs.Tables.{made_to}
use Rattle.rules.specs.Start.{left_over}
use Rattle.start_blocks.proofs.list_kinds.Given as goal

abbrev pub invariant-loop-n : goal.invariant-loop-n
invariant-loop-n l = (length l.bst ≡ length l.initial.bst) × (l.bst ≡ made_to l.p.N (λ n'. cond (left_over l.p l.chip n') 0 2) (λ n'. get_or l.initial.bst n' 0) l.n)
