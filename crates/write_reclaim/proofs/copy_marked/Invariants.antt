-- `write_reclaim::copy_marked`: after f turns those of the first f frames are copied that have a mark, by any marks that the table holds.
-- Assumes nothing.
use mathlib.Core.Path.{◌≡◌}
use Rattle.rules.specs.Marks.{Marks, table_of}
use Rattle.write_reclaim.specs.Moves.{FromTo}
use Rattle.write_reclaim.proofs.Copies.{So}
use Rattle.write_reclaim.proofs.copy_marked.Given as goal

abbrev pub invariant-loop-f : goal.invariant-loop-f
invariant-loop-f l =
    (a : FromTo l.p l.initial.chip l.initial.ct l.o.0 l.n.0 l.v.0) (m : Marks) → l.marks ≡ table_of l.p m → So l.p l.initial.chip l.initial.ct l.o.0 l.n.0 l.v.0 a (m l.r l.v.0) l.f l.chip l.ct l.k
