-- `reply_rows::bad_cluster`: the comparison that the row makes.
-- Assumes nothing.
use mathlib.Core.Path.{refl}
use Rattle.rules.specs.Replies.{bad_cluster}
use Rattle.reply_rows.proofs.bad_cluster.Goals as goal

pub returns : goal.returns
unfolding bad_cluster
returns c = refl
