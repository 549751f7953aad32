-- `chip_erased::is_erased`: the words are full exactly if the rows passed so far are 255, and what is left behind the last row decides the rest.
-- Assumes nothing.
use mathlib.Core.Path.{◌≡◌}
use Prim.Native.Nat.{◌*◌}
use lib.ListN.{take}
use Rattle.lists.specs.Parts.{all_are}
use Rattle.chip_erased.specs.Full.{full}
use Rattle.chip_erased.proofs.is_erased.Given as goal

abbrev pub invariant-loop-i : goal.invariant-loop-i
invariant-loop-i l = full l.w ≡ all_are 255 (take (l.i * 64) l.part)
