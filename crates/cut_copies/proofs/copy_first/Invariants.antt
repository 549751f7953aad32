-- `cut_copies::copy_first`: after f turns those of the first f frames that have a mark are copied as far as the k pages go, by any marks that the table holds.
-- Assumes nothing.
use mathlib.Core.Path.{◌≡◌}
use lib.ListN.{length}
use Rattle.rules.specs.Marks.{Marks, table_of}
use Rattle.write_reclaim.specs.Moves.{Between}
use Rattle.cut_copies.proofs.Turns.{So}
use Rattle.cut_copies.proofs.copy_first.Given as goal

abbrev pub invariant-loop-f : goal.invariant-loop-f
invariant-loop-f l =
    (length l.chip ≡ length l.initial.chip) × ((a : Between l.p l.initial.chip l.o.0 l.n.0) (m : Marks) → l.marks ≡ table_of l.p m → So l.p l.initial.chip l.o.0 l.n.0 a (m l.r l.v.0) l.k l.f l.chip l.j)
