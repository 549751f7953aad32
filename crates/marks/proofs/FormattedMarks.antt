-- The table of the board that an accepted format leaves is zero throughout: no virtual block has a physical block then, so none has a mark, and
-- a word without marks is 0.
-- Assumes nothing.
use mathlib.Core.Path.{◌≡◌, sym, ◌∙◌}
use mathlib.Core.Bool.{false}
use lib.ListN.{replicate}
use Rattle.rules.specs.declared.Params.{Params}
use Rattle.rules.specs.declared.Reply.TheVariants.{Accepted}
use Rattle.rules.specs.Format.{formatted}
use Rattle.rules.specs.Regions.{view}
use Rattle.rules.specs.Replies.{reply_of}
use Rattle.rules.specs.Requests.{format}
use Rattle.rules.specs.Tables.{Board, marks_length}
use Rattle.rules.proofs.FormatPromise.{lacks}
use Rattle.rules.specs.Marks.{marks_in, marks_of, marks_on}
use Rattle.marks.proofs.Tables.{table_cong, table_none}
use Rattle.marks.proofs.Counted.{unassigned_unmarked}

pub formatted_marks : (p : Params) (b : Board) → reply_of p b format ≡ Accepted → marks_of p (formatted p b) ≡ replicate (marks_length p) 0
unfolding marks_in
formatted_marks p b e =
    table_cong p (marks_on p (formatted p b)) (λ r v f. false) (λ r v f h low k. unassigned_unmarked p (view p (formatted p b) r) v (lacks p b e r v) f) ∙ sym (table_none p)
