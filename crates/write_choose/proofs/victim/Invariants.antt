-- `write_choose::victim`: after v turns, the best of the first v virtual blocks, by the marks that the table holds.
-- Assumes nothing.
use mathlib.Core.Path.{◌≡◌}
use Prim.Native.Nat.{◌<◌}
use Rattle.lists.specs.Below.{count_below}
use Rattle.rules.specs.Marks.{Marks, table_of}
use Rattle.write_choose.specs.Search.{least_marked}
use Rattle.write_choose.proofs.victim.Given as goal

abbrev pub invariant-loop-v : goal.invariant-loop-v
invariant-loop-v l =
    (l.least.0 < l.v) × ((m : Marks) → l.marks ≡ table_of l.p m → (l.least.0 ≡ least_marked m l.r l.v) × (l.fewest ≡ count_below 256 (m l.r l.least.0)))
