-- T-07: T-01's queue as C lends it, with a budget.
-- Assumes nothing.
use Rattle.std.specs.Prelude.{ℕ, ◌%◌, ◌≡◌, Bool, ◌||◌, cond, List, [], map, eqb, length}
use Rattle.rules.specs.declared.Params.{Params}
use Rattle.rules.specs.declared.Reply.TheVariants.{WrongLength}
use Rattle.rules.specs.Tables.{Board}
use Rattle.rules.specs.Requests.{queue}
use Rattle.rules.specs.Replies.{bad_parameter}
use Rattle.rules.specs.Calls.{answer_of, answers_in, over, work_of}
use Rattle.rules.specs.Cuts.{finished, limited, step_outcome}
use Rattle.queue_turns.specs.Limited.{Stage, turn_of}
use Rattle.queue_head.specs.Heads.{Ready}
use Rattle.c_answer.specs.Packed.{packed}
use Rattle.c_queue.specs.Flat.{FlatOutcome, flat_outcome, flat_queue, request_at}

-- the outcome of the queue with a budget of k; each answer of an item that is finished before it is spent packed as the single call's, the others as lent
unfoldable pub flat_cut : Params → Board → ℕ → List ℕ → List ℕ → List ℕ → FlatOutcome
flat_cut p b k requests bytes answers =
    let c = queue (flat_queue requests bytes answers) in
    let o = step_outcome p b (limited k c) in
    cond (bad_parameter p || eqb (length requests % 3) 0)
    (flat_outcome (packed o.answer) (over (map packed (answers_in (finished k (work_of p b c).parts))) answers) o.board)
    (flat_outcome (packed (answer_of WrongLength [] 0)) answers b)

-- ---- as the loop goes

abbrev pub stage : Board → List ℕ → ℕ → Stage ℕ
stage b answers k = record { board = b; list = answers; left = k }

-- one turn, with k left and then k'
pub record TurnCut (p : Params) (ordered : Bool) (b : Board) (requests bytes answers : List ℕ) (i k : ℕ) (b' : Board) (answers' : List ℕ) (k' : ℕ) : Type 0 where
  pub goes : stage b' answers' k' ≡ turn_of packed p bytes (request_at requests i) i (stage b answers k)
  pub ready : (k' ≡ 0 → ⊥) → Ready p ordered b'
