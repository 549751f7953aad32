-- A call by its work: what it does for each request, and the board that it leaves. Its outcome is what the caller finds: the answer, the lent data, the
-- answer list, and the chip with all tables, refusals included.
-- Assumes nothing.
use Rattle.std.specs.Prelude.{ℕ, ◌+◌, cond, List, [], ◌∷◌, ◌++◌, map}
use Rattle.lists.specs.Below.{join_below}
use Rattle.rules.specs.declared.Params.{Params}
use Rattle.rules.specs.declared.Reply.{Reply}
use Rattle.rules.specs.declared.Reply.TheVariants.{Accepted}
use Rattle.rules.specs.declared.Answer.{Answer}
use Rattle.rules.specs.Numbers.{sector_of}
use Rattle.rules.specs.Tables.{Board}
use Rattle.rules.specs.Regions.{sector, looks_at}
use Rattle.rules.specs.Traces.{Op, programs_in, erases_in}
use Rattle.rules.specs.Requests.{Request, request_cluster, Queue, item_requests, Call, format, read, write, release, queue, start, lent}
use Rattle.rules.specs.Format.{format_ops, formatted}
use Rattle.rules.specs.Start.{start_ops, started}
use Rattle.rules.specs.Write.{write_ops, written}
use Rattle.rules.specs.Release.{released}
use Rattle.rules.specs.Replies.{is_accepted, reply_of}

-- "An answer is one record that holds the reply, with its number, and both counts", and T-08's "third count"
unfoldable pub answer_of : Reply → List Op → ℕ → Answer
answer_of r ops looks = record { reply = r; programs = programs_in ops; erases = erases_in ops; looks = looks }

-- ---- a work

-- what one request gets: a call that is no queue, or an item of a queue, which is a write. Its answer, its data as it is left, and its operations
pub record Part : Type 0 where
  pub asks : Call
  pub answer : Answer
  pub bytes : List ℕ
  pub ops : List Op

-- a call: its own answer, its data as it is left, the answer list as it was lent, its parts in order, and the board that it leaves
pub record Work : Type 0 where
  pub answer : Answer
  pub bytes : List ℕ
  pub answers : List Answer
  pub parts : List Part
  pub left : Board

-- a call of one part
unfoldable pub single : Call → Answer → List ℕ → List Op → Board → Work
single c a bytes ops b =
    record { answer = a; bytes = bytes; answers = []; parts = record { asks = c; answer = a; bytes = bytes; ops = ops } ∷ []; left = b }

-- "A reply other than 0 changes no lent byte and reports 0 programs, 0 erases"; T-08: 0 spare areas "on refusals"
unfoldable pub refuses : Params → Board → Call → Work
refuses p b c = single c (answer_of (reply_of p b c) [] 0) (lent c) [] b

-- a call that, where it is accepted, makes these operations, looks at so many spare areas, and leaves this data and this board
unfoldable pub does : Params → Board → Call → List Op → ℕ → List ℕ → Board → Work
does p b c ops looks bytes b' = cond (is_accepted (reply_of p b c)) (single c (answer_of Accepted ops looks) bytes ops b') (refuses p b c)

-- the sectors asked for, one after the other
unfoldable pub read_bytes : Params → Board → Request → List ℕ
read_bytes p b q = join_below q.count (λ i. sector p b (request_cluster p q) (sector_of p q.lba + i))

-- T-08: "for the host's own cluster in the state at entry, not for copies"
unfoldable pub write_work : Params → Board → Request → Work
write_work p b q = does p b (write q) (write_ops p b q) (looks_at p b (request_cluster p q)) q.bytes (written p b q)

-- T-01: "The chip, tables and answers equal those of single writes in list order; a refused item changes nothing and the next goes on"; "the call itself
-- answers 0 with counts 0"
unfoldable pub write_all : Params → Board → List Request → Queue → Work
write_all p b [] l = record { answer = answer_of Accepted [] 0; bytes = l.bytes; answers = l.answers; parts = []; left = b }
write_all p b (q ∷ qs) l =
    let w = write_work p b q in
    let ws = write_all p w.left qs l in
    record { answer = ws.answer; bytes = ws.bytes; answers = ws.answers; parts = w.parts ++ ws.parts; left = ws.left }

-- a refusal of "the whole call" has no parts
unfoldable pub queue_work : Params → Board → Queue → Work
queue_work p b l =
    cond (is_accepted (reply_of p b (queue l))) (write_all p b (item_requests p l.bytes l.items) l)
    (record { answer = answer_of (reply_of p b (queue l)) [] 0; bytes = l.bytes; answers = l.answers; parts = []; left = b })

-- "a format reports 0 programs and one erase for each block not bad"; "A read reports 0 and 0 and writes only its data buffer"; T-03: "It reports 0 and 0".
-- T-08: "Read and write now report how many", 0 "from other calls". T-07: "The start reports its erases"
unfoldable pub work_of : Params → Board → Call → Work
work_of p b format = does p b format (format_ops p b.chip b.wear) 0 [] (formatted p b)
work_of p b (read q) = does p b (read q) [] (looks_at p b (request_cluster p q)) (read_bytes p b q) b
work_of p b (write q) = write_work p b q
work_of p b (release c) = does p b (release c) [] 0 [] (released p b c)
work_of p b (queue l) = queue_work p b l
work_of p b start = does p b start (start_ops p b.chip b.wear) 0 [] (started p b)

-- the operations of its parts, in order
unfoldable pub ops_of : List Part → List Op
ops_of [] = []
ops_of (x ∷ xs) = x.ops ++ ops_of xs

-- ---- an outcome

-- the answer, the lent data, the answer list and the board, as a call leaves them
pub record Outcome : Type 0 where
  pub answer : Answer
  pub bytes : List ℕ
  pub answers : List Answer
  pub board : Board

-- "Answers past the last item stay as lent": the answers of the first items, over those that are lent
unfoldable pub over : {A : Type 0} → List A → List A → List A
over [] lent = lent
over (a ∷ more) [] = []
over (a ∷ more) (x ∷ lent) = a ∷ over more lent

unfoldable pub answers_in : List Part → List Answer
answers_in ps = map (λ (x : Part). x.answer) ps

unfoldable pub outcome_of : Params → Board → Call → Outcome
outcome_of p b c =
    let w = work_of p b c in
    record { answer = w.answer; bytes = w.bytes; answers = over (answers_in w.parts) w.answers; board = w.left }
