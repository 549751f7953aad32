-- `check_pairs::kept_of`: by whether there is a full one.
-- Assumes nothing.
use borrow.Author.Tests.{eq-eqb, ne_eqb}
use Rattle.rules.specs.Tables.{none}
use Rattle.check_pairs.specs.Rows.{kept_of}
use Rattle.check_pairs.proofs.kept_of.Goals as goal

pub returns-then-full-eq-NONE : goal.returns-then-full-eq-NONE
unfolding kept_of
returns-then-full-eq-NONE c = rw (eq-eqb c.args.full none c.if-full-eq-NONE.true)

pub returns : goal.returns
unfolding kept_of
returns c = rw (ne_eqb c.args.full none c.if-full-eq-NONE.false)
