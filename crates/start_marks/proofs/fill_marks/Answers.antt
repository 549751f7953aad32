-- `start_marks::fill_marks`: from no mark to those of all virtual blocks.
-- Assumes nothing.
use mathlib.Core.Path.{◌∙◌}
use Rattle.start_marks.proofs.Turns.{any_fst, marks_end, marks_start}
use Rattle.start_marks.proofs.fill_marks.Goals as goal

pub mark_entries-requires : goal.mark_entries-requires
mark_entries-requires c =
    record {
      found = c.requires.found;
      ct_len = c.requires.ct_len;
      marks_value = c.clear_all.ensures ∙ rw c.requires.marks_len (marks_start _ _);
    }

pub returns : goal.returns
returns c = λ fst. c.mark_entries.ensures ∙ marks_end _ _ ∙ any_fst _ _ _ _ fst
