-- `cnftl::cnftl_queue`: the queue from flat lists, with the parameters as one.
-- Assumes nothing.
use mathlib.Core.Path.{ap, ◌∙◌}
use Rattle.rules.specs.declared.Params.{Params}
use Rattle.rules.specs.Tables.{Board, board_of}
use Rattle.c_queue.specs.Flat.{flat_call}
use Rattle.cnftl.proofs.cnftl_queue.Goals as goal
use Rattle.cnftl.proofs.cnftl_queue.Goals.{Start}

abbrev board : Start → Board
board a = board_of a.args.chip.now a.args.ct.now a.args.bt.now a.args.fst.now a.args.bst.now a.args.wear.now a.args.marks.now a.args.stamps.now

pub returns : goal.returns
returns c = c.queue.ensures ∙ ap (λ (p : Params). flat_call p (board (goal.at.returns c).Start) c.args.requests.now c.args.bytes.now c.args.answers.now) c.params-p.ensures
