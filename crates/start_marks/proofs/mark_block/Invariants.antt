-- `start_marks::mark_block`: after f turns the marks of the first f frames.
-- Assumes nothing.
use mathlib.Core.Path.{◌≡◌}
use Prim.Native.Nat.{ℕ, ◌+◌, ◌*◌}
use lib.ListN.{length}
use Rattle.rules.specs.Regions.{View}
use Rattle.rules.specs.Marks.{table_of}
use Rattle.check_marks.specs.Shown.{Shows}
use Rattle.start_marks.specs.SoFar.{marks_to}
use Rattle.start_marks.proofs.mark_block.Given as goal

abbrev pub invariant-loop-f : goal.invariant-loop-f
invariant-loop-f l =
    (length l.marks ≡ length l.initial.marks)
    × ((views : ℕ → View) → Shows l.p l.r l.v.0 l.blk l.ct (views l.r)
    → l.initial.marks ≡ table_of l.p (marks_to l.p views (l.r * l.p.gamma + l.v.0) 0) → l.marks ≡ table_of l.p (marks_to l.p views (l.r * l.p.gamma + l.v.0) l.f))
