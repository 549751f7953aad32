-- `check_apart::all_apart`: every frame of the virtual blocks passed differs from those before it, and was seen.
-- Assumes nothing.
use mathlib.Core.Path.{◌≡◌}
use mathlib.Core.Bool.{true}
use Rattle.lists.specs.Below.{all_below}
use Rattle.check_apart.specs.Apart.{Seen, block_apart}
use Rattle.check_apart.proofs.all_apart.Given as goal

abbrev pub invariant-loop-v : goal.invariant-loop-v
invariant-loop-v l = (all_below l.v (block_apart l.p l.chip l.kept) ≡ true) × Seen l.p l.chip l.kept l.v 0 l.seen
