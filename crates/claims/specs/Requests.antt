-- What document 02's T-01 promises beside the conditions: a queue is its single writes, an item's data in its turn, and a queue on a state that is not orderly.
-- Assumes nothing.
use Rattle.std.specs.Prelude.{ℕ, ◌≡◌, true, false, not, List, [], map}
use Rattle.rules.specs.declared.Params.{Params}
use Rattle.rules.specs.declared.Reply.TheVariants.{Accepted, NotOrderly}
use Rattle.rules.specs.declared.Item.{Item}
use Rattle.rules.specs.Parameters.{allowed}
use Rattle.rules.specs.Tables.{Board}
use Rattle.rules.specs.Orderly.{orderly}
use Rattle.rules.specs.Requests.{Queue, item_request, item_requests, lies, queue, write}
use Rattle.rules.specs.Replies.{access_rows, bad_count, first_row, reply_of, wrong_data}
use Rattle.rules.specs.Calls.{Part, answer_of, work_of}
use Rattle.rules.specs.Cuts.{Step, plain}
use Rattle.claims.specs.Runs.{board_after, parts_of}

-- "single writes in list order", each with its own check of the state
unfoldable pub writes_of : Params → Queue → List Step
writes_of p l = map plain (map write (item_requests p l.bytes l.items))

-- "The chip, tables and answers equal those of single writes in list order; a refused item changes nothing and the next goes on"
pub record AsSingles (p : Params) (b : Board) (l : Queue) : Type 0 where
  pub parts : (work_of p b (queue l)).parts ≡ parts_of p b (writes_of p l)
  pub board : (work_of p b (queue l)).left ≡ board_after p b (writes_of p l)

abbrev pub QueueAsSingles : Type 0
QueueAsSingles = (p : Params) (b : Board) (l : Queue) → reply_of p b (queue l) ≡ Accepted → AsSingles p b l

-- "An item whose count × s bytes do not lie there gets reply 5, in its turn": row 5 of the write that it asks for applies exactly then, where 1 and 3 do not
abbrev pub DataInItsTurn : Type 0
DataInItsTurn =
    (p : Params) (bytes : List ℕ) (it : Item) → allowed p ≡ true → bad_count p (item_request p bytes it) ≡ false
    → wrong_data p (item_request p bytes it) ≡ not (lies p bytes it)

-- "The state is checked once": on a state that is not orderly each item gets 3, 4, 5 or else 7, and nothing changes
unfoldable pub disordered_part : Params → Queue → Item → Part
disordered_part p l it =
    let q = item_request p l.bytes it in
    record { asks = write q; answer = answer_of (first_row NotOrderly (access_rows p q)) [] 0; bytes = q.bytes; ops = [] }

pub record Disordered (p : Params) (b : Board) (l : Queue) : Type 0 where
  pub each : (work_of p b (queue l)).parts ≡ map (disordered_part p l) l.items
  pub same : (work_of p b (queue l)).left ≡ b

abbrev pub OnDisorder : Type 0
OnDisorder = (p : Params) (b : Board) (l : Queue) → reply_of p b (queue l) ≡ Accepted → orderly p b ≡ false → Disordered p b l
