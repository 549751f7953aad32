-- `start_work::fill_tables`: each table by the function that makes it. The marks are those of CT as it then stands, whatever FST names.
-- Assumes nothing.
use mathlib.Core.Path.{ap, ◌∙◌}
use lib.ListN.{length}
use Rattle.lists.proofs.Lists.{list_length}
use Rattle.start_work.proofs.fill_tables.Goals as goal

pub fill_marks-requires : goal.fill_marks-requires
fill_marks-requires c =
    let a = c.requires in
    record {
      found = a.found;
      ct_len = ap length c.fill_ct.ensures ∙ list_length _ _;
      marks_len = a.marks_length;
    }

pub returns : goal.returns
returns c = record { ct_is = c.fill_ct.ensures; fst_is = c.fill_fst.ensures; stamps_is = c.fill_stamps.ensures; marks_are = c.fill_marks.ensures _ }
