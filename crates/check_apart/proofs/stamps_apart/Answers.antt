-- `check_apart::stamps_apart`: the frames of the kept blocks are those of the view that a start finds.
-- Assumes nothing.
use mathlib.Core.Path.{◌∙◌}
use Rattle.rules.proofs.Sizes.{sizes}
use Rattle.check_apart.proofs.Views.{found_apart}
use Rattle.check_apart.proofs.stamps_apart.Goals as goal

pub returns : goal.returns
returns c bt r is = c.all_apart.ensures ∙ found_apart _ (sizes _ c.requires.fine) _ _ bt r is
