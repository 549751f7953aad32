-- T-01's queue as C lends it: the requests as a flat list, three numbers to each, and the answers as numbers.
-- Assumes nothing.
use Rattle.std.specs.Prelude.{ℕ, ◌+◌, ◌*◌, ◌%◌, ◌≤◌, ◌<◌, ◌≡◌, Bool, ◌||◌, cond, List, [], ◌∷◌, map, eqb, get_or, length, replicate, set}
use Rattle.rules.specs.declared.Params.{Params}
use Rattle.rules.specs.declared.Item.{Item}
use Rattle.rules.specs.declared.Reply.TheVariants.{Accepted, WrongLength}
use Rattle.rules.specs.Tables.{Board}
use Rattle.rules.specs.Requests.{Queue, item_of, queue, queue_of}
use Rattle.rules.specs.Replies.{bad_parameter}
use Rattle.rules.specs.Calls.{answer_of, answers_in, outcome_of, over, work_of}
use Rattle.queue_turns.specs.Served.{item_outcome}
use Rattle.queue_head.specs.Heads.{Ready}
use Rattle.c_answer.specs.Packed.{packed}

-- the requests: LBA, count and first byte, one after the other
abbrev pub items_of : List ℕ → List Item
items_of [] = []
items_of (lba ∷ []) = []
items_of (lba ∷ count ∷ []) = []
items_of (lba ∷ count ∷ first ∷ rest) = item_of lba count first ∷ items_of rest

-- the queue of these requests, with as many answers lent; what they hold makes no difference
abbrev pub flat_queue : List ℕ → List ℕ → List ℕ → Queue
flat_queue requests bytes answers = queue_of (items_of requests) bytes (replicate (length answers) (answer_of Accepted [] 0))

-- the call's own number, the answer list, and chip and tables, as the call leaves them
pub record FlatOutcome : Type 0 where
  pub word : ℕ
  pub answers : List ℕ
  pub left : Board

abbrev pub flat_outcome : ℕ → List ℕ → Board → FlatOutcome
flat_outcome word answers b = record { word = word; answers = answers; left = b }

-- the queue's outcome, with each answer packed as the single call's; but "a list whose length is no multiple of three is reply 2", after 1
unfoldable pub flat_call : Params → Board → List ℕ → List ℕ → List ℕ → FlatOutcome
flat_call p b requests bytes answers =
    let c = queue (flat_queue requests bytes answers) in
    let o = outcome_of p b c in
    cond (bad_parameter p || eqb (length requests % 3) 0)
    (flat_outcome (packed o.answer) (over (map packed (answers_in (work_of p b c).parts)) answers) o.board)
    (flat_outcome (packed (answer_of WrongLength [] 0)) answers b)

-- ---- as the loop goes

-- the i-th request of the list
unfoldable pub request_at : List ℕ → ℕ → Item
request_at requests i = item_of (get_or requests (3 * i) 0) (get_or requests (3 * i + 1) 0) (get_or requests (3 * i + 2) 0)

-- what one turn asks: there is an i-th request, and a place for its answer
pub record TurnAsked (requests answers : List ℕ) (i : ℕ) : Type 0 where
  pub asked : 3 * i + 3 ≤ length requests
  pub place : i < length answers

-- and what it does: the item's write, its answer in its place
pub record TurnDone (p : Params) (ordered : Bool) (b : Board) (requests bytes answers : List ℕ) (i : ℕ) (b' : Board) (answers' : List ℕ) : Type 0 where
  pub answered : answers' ≡ set answers i (packed (item_outcome p bytes b (request_at requests i)).answer)
  pub left : b' ≡ (item_outcome p bytes b (request_at requests i)).board
  pub ready : Ready p ordered b'

-- what n turns ask
pub record TurnsAsked (p : Params) (ordered : Bool) (b : Board) (requests answers : List ℕ) (n : ℕ) : Type 0 where
  pub asked : 3 * n ≤ length requests
  pub places : n ≤ length answers
  pub ready : 0 < n → Ready p ordered b
