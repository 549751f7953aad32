-- What an accepted start has found, by its rows of the reply table, read from the last one; and that a second one changes nothing.
-- Assumes nothing.
use mathlib.Core.Path.{◌≡◌, ◌∙◌}
use Prim.Native.Nat.{◌+◌, ◌*◌}
use native.Mathlib.Omega.{arith}
use mathlib.Core.List.{[]}
use borrow.Author.Tests.{le-ltb, ltb-false, not-false}
use Rattle.rules.specs.declared.Params.{Params}
use Rattle.rules.specs.declared.Reply.TheVariants.{Accepted}
use Rattle.rules.specs.Tables.{Board}
use Rattle.rules.specs.Traces.{erases_in, programs_in}
use Rattle.rules.specs.Start.{started}
use Rattle.rules.specs.Requests.{start}
use Rattle.rules.specs.Replies.{bad_parameter, first_row, lent_rows, not_startable, reply_of, rows_of, too_few_blocks, wrong_length}
use Rattle.rules.specs.Calls.{answer_of, outcome_of}
use Rattle.rules.proofs.Admitted.{passed}
use Rattle.rules.proofs.Outcomes.{start_accepted}
use Rattle.rules.specs.Format.{good_blocks}
use Rattle.starts.specs.Admitted.{StartAdmitted}
use Rattle.starts.proofs.Again.{again_admitted, again_ops, again_same}

pub start_admitted : (p : Params) (b : Board) → reply_of p b start ≡ Accepted → StartAdmitted p b
unfolding reply_of rows_of lent_rows first_row bad_parameter wrong_length not_startable
start_admitted p b e =
    let a = passed (bad_parameter p) _ _ (λ x. omega arith) e in
    let l = passed (wrong_length p b) _ _ (λ x. omega arith) a.1 in
    let s = passed (not_startable p b) _ _ (λ x. omega arith) l.1 in
    record { fine = not-false _ a.0; lengths = not-false _ l.0; starts = not-false _ s.0 }

-- and where all that is found, it is accepted
pub admitted_start : (p : Params) (b : Board) → StartAdmitted p b → reply_of p b start ≡ Accepted
unfolding reply_of rows_of lent_rows first_row bad_parameter wrong_length not_startable
admitted_start p b a = rw (a.fine, a.lengths, a.starts)

-- a second start finds nothing to erase, and the same tables
pub start_again : (p : Params) (b : Board) → StartAdmitted p b
    → outcome_of p (started p b) start ≡ record { answer = record { reply = Accepted; programs = 0; erases = 0; looks = 0 }; bytes = []; answers = []; board = started p b }
unfolding answer_of programs_in erases_in
start_again p b a = start_accepted p (started p b) (admitted_start p (started p b) (again_admitted p b a)) ∙ rw (again_ops p b a, again_same p b a)
