-- Every call is as before: a table of the right length and right marks changes no row that applies, and no step reads the marks.
-- Assumes nothing.
use mathlib.Core.Path.{◌≡◌, refl, ap, ◌∙◌}
use mathlib.Core.Logic.{◌⊎◌, inl, inr}
use mathlib.Core.Bool.{Bool, true, false}
use mathlib.Core.List.{List, [], ◌∷◌, ◌++◌}
use Prim.Native.Nat.{ℕ}
use lib.Dec.{eqb}
use lib.ListN.{length, take}
use borrow.Author.Tests.{eq-eqb}
use Rattle.lists.specs.Below.{all_true}
use Rattle.rules.specs.declared.Params.{Params}
use Rattle.rules.specs.declared.Reply.{Reply}
use Rattle.rules.specs.declared.Reply.TheVariants.{Accepted, BadAddress, TooFewBlocks}
use Rattle.rules.specs.Tables.{Board, marks_length}
use Rattle.rules.specs.Orderly.{blocks_rule, ct_rule, fst_rule, marks_rule, orderly, rules_of, stamp_rule}
use Rattle.rules.specs.Traces.{Op}
use Rattle.rules.specs.Requests.{Call, Request, format, lent, read, release, request_cluster, request_region, write}
use Rattle.rules.specs.Format.{formatted}
use Rattle.rules.specs.Write.{Plan, continues, victim_ops, opens, next_stamp, plan_block, plan_bst, plan_of, plan_ops, reclaims, room_ops, write_ops, written, written_by}
use Rattle.rules.specs.Regions.{looks_at, sector, view}
use Rattle.rules.specs.Release.{released}
use Rattle.rules.specs.Replies.{access_rows, bad_cluster, block_row, early_rows, is_accepted, lengths_fit, lent_rows, no_block_left, no_stamp_left, not_orderly, order_row, reply_of, row, rows_of, stamp_row, too_few_blocks, wrong_length}
use Rattle.rules.specs.Calls.{answer_of, outcome_of, read_bytes}
use Rattle.rules.proofs.Outcomes.{call_refused, format_accepted, read_accepted, release_accepted, reply_cases, write_accepted}
use Rattle.claims.specs.OldForm.{AllAsBefore, OldBoard, old_call, old_format, old_lengths, old_of, old_order, old_orderly, old_part, old_read, old_release, old_reply, old_write, without_marks}

-- a test among others that passes
passes : (xs : List Bool) (t : Bool) (ys : List Bool) → t ≡ true → all_true (xs ++ (t ∷ ys)) ≡ all_true (xs ++ ys)
unfolding all_true
passes [] t ys e = rw e
passes (x ∷ xs) t ys e = rw (passes xs t ys e)

-- ---- the rows

same_lengths : (p : Params) (b : Board) → length b.marks ≡ marks_length p → lengths_fit p b ≡ old_lengths p (old_of b)
unfolding lengths_fit old_lengths
same_lengths p b long =
    passes
    (eqb (length b.chip) _ ∷ eqb (length b.ct) _ ∷ eqb (length b.bt) _ ∷ eqb (length b.fst) _ ∷ eqb (length b.bst) _ ∷ eqb (length b.wear) _ ∷ [])
    (eqb (length b.marks) (marks_length p)) (eqb (length b.stamps) p.mu ∷ []) (eq-eqb _ _ long)

same_order : (p : Params) (b : Board) → marks_rule p b ≡ true → orderly p b ≡ old_orderly p (old_of b)
unfolding orderly old_orderly rules_of blocks_rule fst_rule ct_rule stamp_rule
same_order p b right = passes (take 8 (rules_of p b)) (marks_rule p b) (stamp_rule p b ∷ []) right

module _ (p : Params) (b : Board) (long : length b.marks ≡ marks_length p) where
  format_row : reply_of p b format ≡ old_reply p (old_of b) (row (too_few_blocks p (without_marks (old_of b))) TooFewBlocks ∷ [])
  unfolding reply_of rows_of lent_rows old_reply wrong_length too_few_blocks
  format_row = rw (same_lengths p b long)

  module _ (right : marks_rule p b ≡ true) where
    read_rows : (q : Request) → reply_of p b (read q) ≡ old_reply p (old_of b) (access_rows p q ++ old_order p (old_of b))
    unfolding reply_of rows_of lent_rows order_row old_reply old_order wrong_length not_orderly
    read_rows q = rw (same_lengths p b long, same_order p b right)

    write_rows : (q : Request) → reply_of p b (write q) ≡ old_reply p (old_of b) (access_rows p q ++ (old_order p (old_of b) ++ (stamp_row p (without_marks (old_of b)) (request_region p q) ++ block_row p (without_marks (old_of b)) (request_region p q))))
    unfolding reply_of rows_of early_rows lent_rows access_rows order_row stamp_row block_row no_stamp_left no_block_left old_reply old_order wrong_length not_orderly
    write_rows q = rw (same_lengths p b long, same_order p b right)

    release_rows : (c : ℕ) → reply_of p b (release c) ≡ old_reply p (old_of b) (row (bad_cluster p c) BadAddress ∷ old_order p (old_of b))
    unfolding reply_of rows_of lent_rows order_row old_reply old_order wrong_length not_orderly
    release_rows c = rw (same_lengths p b long, same_order p b right)

-- ---- a call by its reply

by_reply : (p : Params) (b : Board) (c : Call) (r : Reply) (ops : List Op) (looks : ℕ) (bytes : List ℕ) (o' : OldBoard) → reply_of p b c ≡ r
    → (reply_of p b c ≡ Accepted → old_part (outcome_of p b c) ≡ record { answer = answer_of Accepted ops looks; bytes = bytes; board = o' })
    → old_part (outcome_of p b c) ≡ old_call (old_of b) r (lent c) ops looks bytes o'
by_reply p b c r ops looks bytes o' is done = go (reply_cases (reply_of p b c))
  where
    go : (reply_of p b c ≡ Accepted) ⊎ (is_accepted (reply_of p b c) ≡ false) → old_part (outcome_of p b c) ≡ old_call (old_of b) r (lent c) ops looks bytes o'
    go (inl e) = rw (← is, e) (unfold old_call is_accepted in done e)
    go (inr e) = rw (← is, call_refused p b c e) (unfold old_call in rw e)

-- no step reads the marks
same_read : (p : Params) (b : Board) (q : Request) → read_bytes p b q ≡ read_bytes p (without_marks (old_of b)) q
unfolding read_bytes sector
same_read p b q = refl

same_looks : (p : Params) (b : Board) (q : Request) → looks_at p b (request_cluster p q) ≡ looks_at p (without_marks (old_of b)) (request_cluster p q)
unfolding looks_at
same_looks p b q = refl

plan_ops_lem : (p : Params) (b : Board) (r : ℕ) (q : Request) (pl : Plan) → plan_ops p b r q pl ≡ plan_ops p (without_marks (old_of b)) r q pl
unfolding plan_ops room_ops plan_block victim_ops next_stamp
plan_ops_lem p b r q (continues v f) = refl
plan_ops_lem p b r q (opens v) = refl
plan_ops_lem p b r q (reclaims v) = refl

same_ops : (p : Params) (b : Board) (q : Request) → write_ops p b q ≡ write_ops p (without_marks (old_of b)) q
unfolding write_ops
same_ops p b q = plan_ops_lem p b (request_region p q) q (plan_of p (view p b (request_region p q)))

same_format : (p : Params) (b : Board) → old_of (formatted p b) ≡ old_of (formatted p (without_marks (old_of b)))
unfolding formatted
same_format p b = refl

plan_board : (p : Params) (b : Board) (r : ℕ) (q : Request) (pl : Plan) → old_of (written_by p b r q pl) ≡ old_of (written_by p (without_marks (old_of b)) r q pl)
unfolding written_by plan_ops room_ops plan_block victim_ops plan_bst next_stamp
plan_board p b r q (continues v f) = refl
plan_board p b r q (opens v) = refl
plan_board p b r q (reclaims v) = refl

same_write : (p : Params) (b : Board) (q : Request) → old_of (written p b q) ≡ old_of (written p (without_marks (old_of b)) q)
unfolding written
same_write p b q = plan_board p b (request_region p q) q (plan_of p (view p b (request_region p q)))

same_release : (p : Params) (b : Board) (c : ℕ) → old_of (released p b c) ≡ old_of (released p (without_marks (old_of b)) c)
unfolding released
same_release p b c = refl

pub as_before : AllAsBefore
unfolding old_format old_read old_write old_release lent
as_before p b long =
    record {
      formats = by_reply p b format _ _ _ _ _ (format_row p b long) (λ e. ap old_part (format_accepted p b e) ∙ rw (same_format p b));
      reads = λ right q. by_reply p b (read q) _ _ _ _ _ (read_rows p b long right q) (λ e. ap old_part (read_accepted p b q e) ∙ rw (same_read p b q, same_looks p b q));
      writes = λ right q. by_reply p b (write q) _ _ _ _ _ (write_rows p b long right q) (λ e. ap old_part (write_accepted p b q e) ∙ rw (same_ops p b q, same_looks p b q, same_write p b q));
      releases = λ right c. by_reply p b (release c) _ _ _ _ _ (release_rows p b long right c) (λ e. ap old_part (release_accepted p b c e) ∙ rw (same_release p b c));
    }
