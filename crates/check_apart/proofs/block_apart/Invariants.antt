-- `check_apart::block_apart`: every frame passed differs from those before it, and was seen.
-- Assumes nothing.
use mathlib.Core.Path.{◌≡◌}
use mathlib.Core.Bool.{true}
use Rattle.lists.specs.Below.{all_below}
use Rattle.check_apart.specs.Apart.{Seen, frame_apart}
use Rattle.check_apart.proofs.block_apart.Given as goal

abbrev pub invariant-loop-f : goal.invariant-loop-f
invariant-loop-f l = (all_below l.f (frame_apart l.p l.chip l.kept l.v.0) ≡ true) × Seen l.p l.chip l.kept l.v.0 l.f l.seen
