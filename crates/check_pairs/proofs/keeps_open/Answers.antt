-- `check_pairs::keeps_open`: an entry that is there is the same whatever stands for one past the end.
-- Assumes nothing.
use mathlib.Core.Path.{◌∙◌}
use Rattle.check_pairs.proofs.Keeps.{open_read}
use Rattle.check_pairs.proofs.keeps_open.Goals as goal

pub returns : goal.returns
returns c = c.open_of.ensures ∙ open_read _ _ _ c.requires.v_in_bounds c.requires.v_in_bounds_2
