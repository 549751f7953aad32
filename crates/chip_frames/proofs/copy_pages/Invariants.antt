-- `chip_frames::copy_pages`. The invariant: the chip is the one at entry with the first k pages of frame `from` put at frame `to`, which are apart.
-- Assumes nothing.
use Prim.Native.Nat.{◌*◌}
use mathlib.Core.Path.{◌≡◌}
use Rattle.chip_frames.specs.Frame.{first_pages}
use Rattle.lists.specs.Parts.{part}
use Rattle.chip_frames.proofs.copy_pages.Given as goal

abbrev pub invariant-loop-k : goal.invariant-loop-k
invariant-loop-k l = l.chip ≡ first_pages l.w l.n l.to (part (l.n * l.w) l.from l.initial.chip) l.initial.chip l.k
