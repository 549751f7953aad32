-- `check_board::count_marked`: the count of the bits of the words passed.
-- Assumes nothing.
use mathlib.Core.Path.{◌≡◌}
use Prim.Native.Nat.{◌*◌, ◌≤◌}
use Rattle.lists.specs.Below.{count_below}
use Rattle.check_board.specs.Order.{bit_at}
use Rattle.check_board.proofs.count_marked.Given as goal

abbrev pub invariant-loop-word : goal.invariant-loop-word
invariant-loop-word l = (l.k ≤ 64 * l.word-index) × (l.k ≡ count_below (64 * l.word-index) (bit_at l.marks))
