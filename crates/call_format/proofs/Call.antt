-- What an accepted format asks of its parts, and its work done.
-- Assumes nothing.
use mathlib.Core.Path.{◌≡◌, sym, ◌∙◌}
use mathlib.Core.List.{List, []}
use Prim.Native.Nat.{ℕ, ◌*◌, ◌≤◌, ◌<◌}
use native.Mathlib.Omega.{arith}
use lib.ListN.{length, replicate}
use Rattle.rules.specs.declared.Params.{Params}
use Rattle.rules.specs.declared.Reply.TheVariants.{Accepted}
use Rattle.rules.specs.Tables.{Board, board_of, none}
use Rattle.rules.specs.Marks.{marks_of}
use Rattle.rules.specs.Format.{formatted}
use Rattle.rules.specs.Requests.{format}
use Rattle.rules.specs.Replies.{reply_of}
use Rattle.rules.specs.Calls.{answer_of, outcome_of}
use Rattle.rules.proofs.Sizes.{sizes}
use Rattle.rules.proofs.Admitted.{FormatAdmitted, format_admitted}
use Rattle.rules.proofs.Outcomes.{format_accepted}
use Rattle.rules.proofs.Counts.{format_programs}
use Rattle.marks.proofs.FormattedMarks.{formatted_marks}
use Rattle.chip_lost.proofs.Board.{Lengths}
use Rattle.format_work.specs.Blocks.{BlocksAsked, BlocksDone}
use Rattle.cut_erases.proofs.Board.{blocks_asked, table_lengths}
use Rattle.outcomes.specs.Claims.{outcome}

module _ (p : Params) (b : Board) (e : reply_of p b format ≡ Accepted) where
  pub given : FormatAdmitted p b
  given = format_admitted p b e

  lens : Lengths p b.ct b.bt b.fst b.bst b.marks b.stamps
  lens = table_lengths p b given.lengths

  pub asked : BlocksAsked p b.chip b.bst b.wear
  asked = blocks_asked p b given.lengths given.fine

  pub few : (k : ℕ) → k ≤ p.N → k < 4294967296
  few k h = omega (arith, h, (sizes p given.fine).blocks)

  -- every block formatted, every entry cleared, every mark gone and every last stamp 0
  pub format_done : (chip ct bt fst bst wear marks stamps : List ℕ) (k : ℕ) → ct ≡ replicate (length b.ct) none → bt ≡ replicate (length b.bt) none
      → fst ≡ replicate (length b.fst) none → marks ≡ replicate (length b.marks) 0 → stamps ≡ replicate (length b.stamps) 0 → BlocksDone p b.chip b.wear chip bst wear k
      → outcome (record { reply = Accepted; programs = 0; erases = k; looks = 0 }) [] [] (board_of chip ct bt fst bst wear marks stamps) ≡ outcome_of p b format
  unfolding answer_of formatted
  format_done chip ct bt fst bst wear marks stamps k ce be fe me se d =
      let ct-is : ct ≡ replicate p.C none = ce ∙ rw lens.ct_length in
      let bt_is_lem : bt ≡ replicate (p.mu * p.gamma) none = be ∙ rw lens.bt_length in
      let fst_is_lem : fst ≡ replicate p.mu none = fe ∙ rw lens.fst_length in
      let marks-is : marks ≡ marks_of p (formatted p b) = me ∙ rw lens.marks_length (sym (formatted_marks p b e)) in
      let stamps-is : stamps ≡ replicate p.mu 0 = se ∙ rw lens.stamps_length in
      (λ i.
      record {
        answer = record { reply = Accepted; programs = sym (format_programs p b.chip b.wear) i; erases = d.count i; looks = 0 };
        bytes = [];
        answers = [];
        board = record { chip = d.chip_is i; ct = ct-is i; bt = bt_is_lem i; fst = fst_is_lem i; bst = d.bst_is i; wear = d.wear_is i; marks = marks-is i; stamps = stamps-is i };
      })
      ∙ sym (format_accepted p b e)
