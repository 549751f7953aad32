-- A queue as a loop goes: item by item, with what is kept of each answer put into its place.
-- Assumes nothing.
use Rattle.std.specs.Prelude.{ℕ, ◌+◌, List, [], ◌∷◌, set}
use Rattle.rules.specs.declared.Params.{Params}
use Rattle.rules.specs.declared.Answer.{Answer}
use Rattle.rules.specs.declared.Item.{Item}
use Rattle.rules.specs.Tables.{Board}
use Rattle.rules.specs.Requests.{item_request, write}
use Rattle.rules.specs.Calls.{Outcome, outcome_of}

-- the outcome of the single write that an item asks for
unfoldable pub item_outcome : Params → List ℕ → Board → Item → Outcome
item_outcome p bytes b it = outcome_of p b (write (item_request p bytes it))

-- the board and the list once the items, the first of which is the i-th of the queue, are served
unfoldable pub served_from : {A : Type 0} → (Answer → A) → Params → List ℕ → List Item → ℕ → Board → List A → Board × List A
served_from kept p bytes [] i b list = (b, list)
served_from kept p bytes (it ∷ items) i b list =
    served_from kept p bytes items (i + 1) (item_outcome p bytes b it).board (set list i (kept (item_outcome p bytes b it).answer))
