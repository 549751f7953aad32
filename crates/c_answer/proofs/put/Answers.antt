-- `c_answer::put`: one entry is set, to the packed answer.
-- Assumes nothing.
use mathlib.Core.Path.{ap}
use lib.ListN.{set}
use Rattle.c_answer.proofs.put.Goals as goal

pub returns : goal.returns
returns c = ap (set c.args.answers.now c.args.i) c.pack.ensures
