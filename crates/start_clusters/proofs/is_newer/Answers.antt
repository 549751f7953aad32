-- `start_clusters::is_newer`: by the two stamps, where there are two.
-- Assumes nothing.
use borrow.Author.Tests.{eq-eqb, ne_eqb}
use Rattle.rules.specs.Tables.{none}
use Rattle.start_clusters.proofs.is_newer.Goals as goal

pub returns-then-m-eq-NONE : goal.returns-then-m-eq-NONE
returns-then-m-eq-NONE c = rw (eq-eqb c.args.m none c.if-m-eq-NONE.true)

pub stamp_at-requires : goal.stamp_at-requires
stamp_at-requires c =
    record {
      found = c.requires.found;
      has_frame = c.requires.has_frame_2 c.if-m-eq-NONE.false;
    }

pub returns : goal.returns
returns c = rw (ne_eqb c.args.m none c.if-m-eq-NONE.false, c.stamp_at.ensures, c.stamp_at-2.ensures)
