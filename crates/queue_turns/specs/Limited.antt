-- A queue with a budget as a loop goes: item by item, each with what is left of the budget. Nothing left says that the queue is cut: then nothing more is served, and the item that
-- took the last of it is not answered.
-- Assumes nothing.
use Rattle.std.specs.Prelude.{ℕ, ◌+◌, ◌-◌, cond, List, [], ◌∷◌, eqb, length, set}
use Rattle.rules.specs.declared.Params.{Params}
use Rattle.rules.specs.declared.Answer.{Answer}
use Rattle.rules.specs.declared.Item.{Item}
use Rattle.rules.specs.Tables.{Board}
use Rattle.rules.specs.Requests.{item_request, write}
use Rattle.rules.specs.Calls.{Outcome, ops_of, work_of}
use Rattle.rules.specs.Cuts.{limited, step_outcome}

-- the outcome of the single write that an item asks for, with k left, and what is left after it
unfoldable pub item_step : Params → List ℕ → Board → ℕ → Item → Outcome
item_step p bytes b k it = step_outcome p b (limited k (write (item_request p bytes it)))

unfoldable pub left_after : Params → List ℕ → Board → ℕ → Item → ℕ
left_after p bytes b k it = k - length (ops_of (work_of p b (write (item_request p bytes it))).parts)

-- the board, the list, and what is left
pub record Stage (A : Type 0) : Type 0 where
  pub board : Board
  pub list : List A
  pub left : ℕ

-- one item is served, which is the i-th of the queue
unfoldable pub turn_of : {A : Type 0} → (Answer → A) → Params → List ℕ → Item → ℕ → Stage A → Stage A
turn_of kept p bytes it i s =
    let o = item_step p bytes s.board s.left it in
    let k = left_after p bytes s.board s.left it in
    cond (eqb s.left 0) s (record { board = o.board; list = cond (eqb k 0) s.list (set s.list i (kept o.answer)); left = k })

-- and the items, the first of which is the i-th
unfoldable pub turns_from : {A : Type 0} → (Answer → A) → Params → List ℕ → List Item → ℕ → Stage A → Stage A
turns_from kept p bytes [] i s = s
turns_from kept p bytes (it ∷ items) i s = turns_from kept p bytes items (i + 1) (turn_of kept p bytes it i s)
