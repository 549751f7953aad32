-- `chip_marks::set_first`: after j turns the first j words are those of the first k frames.
-- Assumes nothing.
use mathlib.Core.Path.{◌≡◌}
use Rattle.rules.specs.Marks.{Marks, table_of}
use Rattle.marks.proofs.Tables.{first_words}
use Rattle.chip_marks.proofs.set_first.Given as goal

abbrev pub invariant-loop-j : goal.invariant-loop-j
invariant-loop-j l = (m : Marks) → l.initial.marks ≡ table_of l.p m → l.marks ≡ table_of l.p (first_words m l.r l.v.0 l.k l.j)
