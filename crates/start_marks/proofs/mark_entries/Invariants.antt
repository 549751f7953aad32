-- `start_marks::mark_entries`: after i turns the marks of the virtual blocks before entry i.
-- Assumes nothing.
use mathlib.Core.Path.{◌≡◌}
use mathlib.Core.List.{[]}
use Rattle.rules.specs.Regions.{view_of}
use Rattle.rules.specs.Marks.{table_of}
use Rattle.start_marks.specs.SoFar.{marks_to}
use Rattle.start_marks.proofs.mark_entries.Given as goal

abbrev pub invariant-loop-i : goal.invariant-loop-i
invariant-loop-i l = (l.marks ≡ table_of l.p (marks_to l.p (view_of l.p l.chip l.ct l.bt []) l.i 0))
