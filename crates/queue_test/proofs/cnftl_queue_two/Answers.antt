-- `queue_test::cnftl_queue_two`: two writes as one queue, each answer packed.
-- Assumes nothing.
use mathlib.Core.Path.{ap₂, ◌∙◌}
use mathlib.Core.List.{[], ◌∷◌}
use Prim.Native.Nat.{ℕ}
use Rattle.rules.specs.Tables.{Board, board_of}
use Rattle.queue_test.specs.Two.{placed}
use Rattle.queue_test.proofs.Few.{few_two, with_params}
use Rattle.queue_test.proofs.cnftl_queue_two.Goals as goal
use Rattle.queue_test.proofs.cnftl_queue_two.Goals.{After-queue_two-r}

abbrev board : After-queue_two-r → Board
board c =
    board_of c.args.chip.now c.args.ct.now c.args.bt.now c.args.fst.now c.args.bst.now c.args.wear.now c.args.marks.now
    c.args.stamps.now

pub pack-requires : goal.pack-requires
pack-requires c = (few_two _ (board (goal.at.pack-requires c).After-queue_two-r) _ _ _ _ _ _ _ c.queue_two-r.ensures).1.0

pub pack-requires-2 : goal.pack-requires-2
pack-requires-2 c = (few_two _ (board (goal.at.pack-requires-2 c).After-queue_two-r) _ _ _ _ _ _ _ c.queue_two-r.ensures).1.1.0

pub pack-requires-3 : goal.pack-requires-3
pack-requires-3 c = (few_two _ (board (goal.at.pack-requires-3 c).After-queue_two-r) _ _ _ _ _ _ _ c.queue_two-r.ensures).0

pub returns : goal.returns
returns c =
    record {
      own = c.queue_two-r.result.own;
      first = c.queue_two-r.result.first;
      second = c.queue_two-r.result.second;
      whole = with_params _ _ c.params-p.ensures (board (goal.at.returns c).After-queue_two-r) _ _ c.queue_two-r.ensures;
      result = c.pack-3.ensures;
      list =
          c.put_both.ensures
          ∙ ap₂ (λ (first second : ℕ). placed (first ∷ second ∷ c.queue_two-r.result.first.looks ∷ c.queue_two-r.result.second.looks ∷ []) c.args.answers.now)
          c.pack.ensures c.pack-2.ensures;
    }
