-- `start_blocks::use_named`: after i turns the blocks that the first i entries name are used.
-- Assumes nothing.
use mathlib.Core.Path.{◌≡◌}
use mathlib.Core.Bool.{Bool, false, cond}
use Prim.Native.Nat.{ℕ, ◌<◌}
use lib.ListN.{length}
use Rattle.lists.specs.Below.{list_below}
use Rattle.rules.specs.Tables.{bt_entry, none}
use Rattle.start_blocks.proofs.Used.{used_to}
use Rattle.start_blocks.proofs.use_named.Given as goal

abbrev pub invariant-loop-i : goal.invariant-loop-i
invariant-loop-i l =
    (length l.bst ≡ length l.initial.bst)
    × ((bad : ℕ → Bool) → ((j : ℕ) → j < length l.bt → (bt_entry l.bt j ≡ none → ⊥) → bad (bt_entry l.bt j) ≡ false)
    → l.initial.bst ≡ list_below (length l.initial.bst) (λ n. cond (bad n) 2 0) → l.bst ≡ used_to (length l.initial.bst) l.bt bad l.i)
