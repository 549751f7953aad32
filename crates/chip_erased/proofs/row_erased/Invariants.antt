-- `chip_erased::row_erased`: the bits gathered are all bits exactly if the bytes passed so far are 255.
-- Assumes nothing.
use mathlib.Core.Path.{◌≡◌}
use Prim.Native.Nat.{◌<◌}
use lib.Dec.{eqb}
use lib.ListN.{take}
use Rattle.lists.specs.Parts.{all_are}
use Rattle.chip_erased.proofs.row_erased.Given as goal

abbrev pub invariant-loop-b : goal.invariant-loop-b
invariant-loop-b l = (l.all < 256) × (eqb l.all 255 ≡ all_are 255 (take l.b-index l.row))
