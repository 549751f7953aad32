-- A call of one part with a budget: refused, or with budget left over, it is the plain call; else it is cut behind the last operation that the budget has. By what its work is.
-- Assumes nothing.
use mathlib.Core.Path.{◌≡◌, refl}
use Prim.Native.Nat.{ℕ, ◌≤◌, ◌<◌}
use mathlib.Core.Bool.{true, false}
use mathlib.Core.List.{List, [], append-nil}
use lib.ListN.{length, take}
use borrow.Author.Tests.{le-leb, le-ltb, lt-leb}
use Rattle.lists.proofs.Tests.{and_no}
use Rattle.rules.specs.declared.Params.{Params}
use Rattle.rules.specs.declared.Reply.TheVariants.{Accepted}
use Rattle.rules.specs.Tables.{Board}
use Rattle.rules.specs.Regions.{looks_at}
use Rattle.rules.specs.Traces.{Op}
use Rattle.rules.specs.Requests.{Call, Request, format, request_cluster, start, write}
use Rattle.rules.specs.Format.{format_ops, formatted}
use Rattle.rules.specs.Write.{write_ops, written}
use Rattle.rules.specs.Start.{start_ops, started}
use Rattle.rules.specs.Replies.{is_accepted, reply_of}
use Rattle.rules.specs.Calls.{answer_of, answers_in, ops_of, outcome_of, over, single, work_of, write_work}
use Rattle.rules.specs.Cuts.{cut_board, cut_outcome, finished, has_budget, is_cut, limited, step_outcome}
use Rattle.rules.proofs.Outcomes.{reply_is, work_accepted}
use Rattle.outcomes.specs.Claims.{outcome}

module _ (p : Params) (b : Board) (k : ℕ) (c : Call) where
  work_reply : (work_of p b c).answer.reply ≡ reply_of p b c
  work_reply = unfold outcome_of in reply_is p b c

  -- a refusal is the same with any budget
  pub step_refused : is_accepted (reply_of p b c) ≡ false → step_outcome p b (limited k c) ≡ outcome_of p b c
  unfolding step_outcome is_cut
  step_refused e = rw (work_reply, e, and_no (has_budget c) refl)

  module _ (ops : List Op) (looks : ℕ) (bytes : List ℕ) (b' : Board) (e : work_of p b c ≡ single c (answer_of Accepted ops looks) bytes ops b') where
    ops_are : ops_of (work_of p b c).parts ≡ ops
    unfolding ops_of single
    ops_are = rw e (append-nil ops)

    -- a call that makes fewer operations than its budget has is the plain call
    pub step_whole : length ops < k → step_outcome p b (limited k c) ≡ outcome_of p b c
    unfolding step_outcome is_cut
    step_whole h = rw (ops_are, lt-leb k (length ops) h, and_no (is_accepted (work_of p b c).answer.reply) refl, and_no (has_budget c) refl)

    is_accepted_lem : is_accepted (work_of p b c).answer.reply ≡ true
    unfolding single answer_of is_accepted
    is_accepted_lem = rw e

    is_cut_lem : has_budget c ≡ true → k ≤ length ops → is_cut p b (limited k c) ≡ true
    unfolding is_cut
    is_cut_lem h few = rw (h, is_accepted_lem, ops_are) (le-leb k (length ops) few)

    cut_is : k ≤ length ops → cut_outcome p b k c ≡ outcome (answer_of Accepted [] 0) bytes [] (cut_board p b (take k ops))
    unfolding cut_outcome single answers_in over finished ops_of
    cut_is few = rw (e, append-nil ops, le-ltb (length ops) k few)

    -- and one that makes as many or more is cut: the first k are made, and the tables are gone
    pub step_cut : has_budget c ≡ true → k ≤ length ops → step_outcome p b (limited k c) ≡ outcome (answer_of Accepted [] 0) bytes [] (cut_board p b (take k ops))
    unfolding step_outcome
    step_cut h few = rw (is_cut_lem h few) (cut_is few)

-- ---- the works of the calls that come with a budget, as these laws take them

pub format_work : (p : Params) (b : Board) → reply_of p b format ≡ Accepted
    → work_of p b format ≡ single format (answer_of Accepted (format_ops p b.chip b.wear) 0) [] (format_ops p b.chip b.wear) (formatted p b)
unfolding work_of
format_work p b e = work_accepted p b format _ _ _ _ e

pub write_work_lem : (p : Params) (b : Board) (q : Request) → reply_of p b (write q) ≡ Accepted
    → work_of p b (write q) ≡ single (write q) (answer_of Accepted (write_ops p b q) (looks_at p b (request_cluster p q))) q.bytes (write_ops p b q) (written p b q)
unfolding work_of write_work
write_work_lem p b q e = work_accepted p b (write q) _ _ _ _ e

pub start_work : (p : Params) (b : Board) → reply_of p b start ≡ Accepted
    → work_of p b start ≡ single start (answer_of Accepted (start_ops p b.chip b.wear) 0) [] (start_ops p b.chip b.wear) (started p b)
unfolding work_of
start_work p b e = work_accepted p b start _ _ _ _ e
