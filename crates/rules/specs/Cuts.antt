-- Document 02, T-07, cuts: "Power may go after any page program or block erase, each of them whole. A cut is a number". Which calls come with a budget, when one is cut, and what it then leaves.
-- Nothing in a call's own definition knows of budgets.
-- Assumes nothing.
use Rattle.std.specs.Prelude.{ℕ, ◌-◌, ◌*◌, Bool, true, false, ◌&&◌, cond, List, [], ◌∷◌, leb, ltb, length, take, replicate}
use Rattle.rules.specs.declared.Params.{Params}
use Rattle.rules.specs.declared.Reply.TheVariants.{Accepted}
use Rattle.rules.specs.Tables.{Board, marks_length, none}
use Rattle.rules.specs.Traces.{Op, made}
use Rattle.rules.specs.Requests.{Call, format, read, write, release, queue, start}
use Rattle.rules.specs.Replies.{is_accepted}
use Rattle.rules.specs.Calls.{Outcome, Part, answer_of, answers_in, ops_of, outcome_of, over, work_of}

-- "format, write, queue and start also come with a budget of programs and erases"
unfoldable pub has_budget : Call → Bool
has_budget format = true
has_budget (read q) = false
has_budget (write q) = true
has_budget (release c) = false
has_budget (queue l) = true
has_budget start = true

-- a call as it is, or with a budget
pub data Step : Type 0 where
  plain : Call → Step
  limited : ℕ → Call → Step

unfoldable pub call_of : Step → Call
call_of (plain c) = c
call_of (limited k c) = c

-- "Once past its refusals such a call stops when that many are made", at its very last one too
unfoldable pub is_cut : Params → Board → Step → Bool
is_cut p b (plain c) = false
is_cut p b (limited k c) = has_budget c && (is_accepted (work_of p b c).answer.reply && leb k (length (ops_of (work_of p b c).parts)))

-- the parts that are finished before k operations are made, and the one that is then cut, if one is
unfoldable pub finished : ℕ → List Part → List Part
finished k [] = []
finished k (x ∷ xs) = cond (ltb (length x.ops) k) (x ∷ finished (k - length x.ops) xs) []

unfoldable pub cut_part : ℕ → List Part → List Part
cut_part k [] = []
cut_part k (x ∷ xs) = cond (ltb (length x.ops) k) (cut_part (k - length x.ops) xs) (x ∷ [])

-- "with the chip as it then stands, wear as counted so far and the other tables all ones": CT, BT and FST 65,535, BST 255, marks 2^64 − 1, stamps 2^32 − 1
unfoldable pub cut_board : Params → Board → List Op → Board
cut_board p b ops =
    made p b ops
    (record {
      ct = replicate p.C none;
      bt = replicate (p.mu * p.gamma) none;
      fst = replicate p.mu none;
      bst = replicate p.N 255;
      stamps = replicate p.mu 4294967295;
    })
    (replicate (marks_length p) 18446744073709551615)

-- "its answers then count for nothing": reply 0 and counts 0. Of a queue the answers of the finished items stand
unfoldable pub cut_outcome : Params → Board → ℕ → Call → Outcome
cut_outcome p b k c =
    let w = work_of p b c in
    record {
      answer = answer_of Accepted [] 0;
      bytes = w.bytes;
      answers = over (answers_in (finished k w.parts)) w.answers;
      board = cut_board p b (take k (ops_of w.parts));
    }

-- "A plain call equals one whose budget is never spent"
unfoldable pub step_outcome : Params → Board → Step → Outcome
step_outcome p b (plain c) = outcome_of p b c
step_outcome p b (limited k c) = cond (is_cut p b (limited k c)) (cut_outcome p b k c) (outcome_of p b c)
