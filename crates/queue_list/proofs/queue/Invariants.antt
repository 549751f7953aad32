-- `queue_list::queue`: serving the items from i on, from the tables and answers as they are, gives what serving all of them from those at entry gives.
-- Assumes nothing.
use Rattle.std.proofs.Common.{◌≡◌, ◌<◌, ◌≤◌, take, drop}
use Rattle.rules.specs.Tables.{board_of}
use Rattle.queue_turns.specs.Served.{served_from}
use Rattle.queue_head.specs.Heads.{Ready}
use Rattle.queue_list.proofs.Folded.{itself}
use Rattle.queue_list.proofs.queue.Given as goal

abbrev pub invariant-loop-i : goal.invariant-loop-i
invariant-loop-i l =
    record {
      low : l.i ≤ l.h.items;
      served : served_from itself l.p l.bytes (drop l.i (take l.h.items l.requests)) l.i (board_of l.chip l.ct l.bt l.fst l.bst l.wear l.marks l.stamps) l.answers
          ≡ served_from itself l.p l.bytes (take l.h.items l.requests) 0
          (board_of l.initial.chip l.initial.ct l.initial.bt l.initial.fst l.initial.bst l.initial.wear l.initial.marks l.initial.stamps) l.initial.answers;
      ready : l.i < l.h.items → Ready l.p l.h.ordered (board_of l.chip l.ct l.bt l.fst l.bst l.wear l.marks l.stamps);
    }
