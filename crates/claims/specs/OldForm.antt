-- Document 02, T-06: "Every call answers and leaves chip and old tables as before, proved against the old form". The old form, the calls without the table of
-- marks, is kept here for this one promise; nothing else is defined by it.
-- Assumes nothing.
use Rattle.std.specs.Prelude.{ℕ, ◌*◌, ◌≡◌, Bool, true, not, cond, List, [], ◌∷◌, ◌++◌, eqb, drop, length, take}
use Rattle.lists.specs.Below.{all_true}
use Rattle.rules.specs.declared.Params.{Params}
use Rattle.rules.specs.declared.Reply.{Reply}
use Rattle.rules.specs.declared.Reply.TheVariants.{Accepted, BadAddress, BadParameter, NotOrderly, TooFewBlocks, WrongLength}
use Rattle.rules.specs.declared.Answer.{Answer}
use Rattle.rules.specs.Parameters.{chip_bytes}
use Rattle.rules.specs.Tables.{Board, board_of, marks_length}
use Rattle.rules.specs.Orderly.{marks_rule, rules_of}
use Rattle.rules.specs.Traces.{Op}
use Rattle.rules.specs.Regions.{looks_at}
use Rattle.rules.specs.Requests.{Request, format, read, release, request_cluster, request_region, write}
use Rattle.rules.specs.Format.{format_ops, formatted}
use Rattle.rules.specs.Write.{write_ops, written}
use Rattle.rules.specs.Release.{released}
use Rattle.rules.specs.Replies.{Row, access_rows, bad_cluster, bad_parameter, block_row, first_row, is_accepted, row, stamp_row, too_few_blocks}
use Rattle.rules.specs.Calls.{Outcome, answer_of, outcome_of, read_bytes}

-- the lent chip and every table but the marks; no step but the marks' own looks at theirs, which stands here empty
pub record OldBoard : Type 0 where
  pub chip : List ℕ
  pub ct : List ℕ
  pub bt : List ℕ
  pub fst : List ℕ
  pub bst : List ℕ
  pub wear : List ℕ
  pub stamps : List ℕ

abbrev pub old_of : Board → OldBoard
old_of b = record { chip = b.chip; ct = b.ct; bt = b.bt; fst = b.fst; bst = b.bst; wear = b.wear; stamps = b.stamps }

abbrev pub without_marks : OldBoard → Board
without_marks o = board_of o.chip o.ct o.bt o.fst o.bst o.wear [] o.stamps

-- the other nine rules, the lengths and the rows without it
unfoldable pub old_orderly : Params → OldBoard → Bool
old_orderly p o = all_true (take 8 (rules_of p (without_marks o)) ++ drop 9 (rules_of p (without_marks o)))

unfoldable pub old_lengths : Params → OldBoard → Bool
old_lengths p o =
    all_true
    (eqb (length o.chip) (chip_bytes p)
    ∷ eqb (length o.ct) p.C
    ∷ eqb (length o.bt) (p.mu * p.gamma)
    ∷ eqb (length o.fst) p.mu
    ∷ eqb (length o.bst) p.N
    ∷ eqb (length o.wear) p.N
    ∷ eqb (length o.stamps) p.mu
    ∷ [])

unfoldable pub old_reply : Params → OldBoard → List (Row Reply) → Reply
old_reply p o rows = first_row Accepted (row (bad_parameter p) BadParameter ∷ row (not (old_lengths p o)) WrongLength ∷ rows)

unfoldable pub old_order : Params → OldBoard → List (Row Reply)
old_order p o = row (not (old_orderly p o)) NotOrderly ∷ []

-- the answer, the lent data and the board as a call leaves them
pub record OldOutcome : Type 0 where
  pub answer : Answer
  pub bytes : List ℕ
  pub board : OldBoard

-- a call with this reply: refused it leaves the data that was lent; accepted it makes these operations, looks at so many spare areas, and leaves this data and
-- this board. T-08's count, which came later, is of no table of marks either
unfoldable pub old_call : OldBoard → Reply → List ℕ → List Op → ℕ → List ℕ → OldBoard → OldOutcome
old_call o r lent ops looks bytes o' =
    cond (is_accepted r) (record { answer = answer_of Accepted ops looks; bytes = bytes; board = o' }) (record { answer = answer_of r [] 0; bytes = lent; board = o })

unfoldable pub old_format : Params → OldBoard → OldOutcome
old_format p o =
    let b = without_marks o in
    old_call o (old_reply p o (row (too_few_blocks p b) TooFewBlocks ∷ [])) [] (format_ops p o.chip o.wear) 0 [] (old_of (formatted p b))

unfoldable pub old_read : Params → OldBoard → Request → OldOutcome
old_read p o q =
    let b = without_marks o in
    old_call o (old_reply p o (access_rows p q ++ old_order p o)) q.bytes [] (looks_at p b (request_cluster p q)) (read_bytes p b q) o

unfoldable pub old_write : Params → OldBoard → Request → OldOutcome
old_write p o q =
    let b = without_marks o in
    old_call o (old_reply p o (access_rows p q ++ (old_order p o ++ (stamp_row p b (request_region p q) ++ block_row p b (request_region p q))))) q.bytes (write_ops p b q) (looks_at p b (request_cluster p q)) q.bytes (old_of (written p b q))

unfoldable pub old_release : Params → OldBoard → ℕ → OldOutcome
old_release p o c =
    old_call o (old_reply p o (row (bad_cluster p c) BadAddress ∷ old_order p o)) [] [] 0 [] (old_of (released p (without_marks o) c))

-- an outcome without the table
abbrev pub old_part : Outcome → OldOutcome
old_part o = record { answer = o.answer; bytes = o.bytes; board = old_of o.board }

-- so it is, refusals included, where the marks have the right length and, but for a format, which takes any marks, obey their rule. A queue is its single writes
pub record AsBefore (p : Params) (b : Board) : Type 0 where
  pub formats : old_part (outcome_of p b format) ≡ old_format p (old_of b)
  pub reads : marks_rule p b ≡ true → (q : Request) → old_part (outcome_of p b (read q)) ≡ old_read p (old_of b) q
  pub writes : marks_rule p b ≡ true → (q : Request) → old_part (outcome_of p b (write q)) ≡ old_write p (old_of b) q
  pub releases : marks_rule p b ≡ true → (c : ℕ) → old_part (outcome_of p b (release c)) ≡ old_release p (old_of b) c

abbrev pub AllAsBefore : Type 0
AllAsBefore = (p : Params) (b : Board) → length b.marks ≡ marks_length p → AsBefore p b
