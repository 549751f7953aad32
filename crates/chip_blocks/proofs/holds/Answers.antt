-- `chip_blocks::holds`: by whether the last page has that cluster's number.
-- Assumes nothing.
use mathlib.Core.Bool.{and-false, and-true}
use borrow.Author.Tests.{eq-eqb, ne_eqb}
use Rattle.rules.specs.Pages.{holds}
use Rattle.chip_blocks.proofs.holds.Goals as goal

pub returns-then-last_cluster-c : goal.returns-then-last_cluster-c
unfolding holds
returns-then-last_cluster-c c = rw (← c.last_cluster.ensures, ne_eqb c.last_cluster.result.0 c.args.c.0 c.if-last_cluster-c.true, and-false)

pub returns : goal.returns
unfolding holds
returns c = rw (← c.last_cluster.ensures, eq-eqb c.last_cluster.result.0 c.args.c.0 c.if-last_cluster-c.false, and-true) c.is_whole.ensures
