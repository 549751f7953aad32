-- `read_work::read_run`: after i turns the first i sectors stand in the data.
-- Assumes nothing.
use mathlib.Core.Path.{◌≡◌}
use mathlib.Core.List.{◌++◌}
use Prim.Native.Nat.{◌+◌, ◌*◌}
use lib.ListN.{length, drop}
use Rattle.std.specs.Prelude.{is_some}
use Rattle.lists.specs.Below.{join_below}
use Rattle.read_work.specs.Lookup.{spot_frame}
use Rattle.read_work.specs.Sectors.{sector_from}
use Rattle.read_work.proofs.read_run.Given as goal

abbrev pub invariant-loop-i : goal.invariant-loop-i
invariant-loop-i l =
    (length l.bytes ≡ length l.initial.bytes) × (l.bytes ≡ join_below l.i (λ k. sector_from l.p l.chip (is_some l.at) (spot_frame l.at) (l.j + k)) ++ drop (l.i * l.p.s) l.initial.bytes)
