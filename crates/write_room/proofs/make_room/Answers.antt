-- `write_room::make_room`: each arm is given that the plan is its constructor.
-- Assumes nothing.
use Rattle.write_room.proofs.Rooms.{made_by_marks, made_continues, made_opens}
use Rattle.write_room.proofs.make_room.Goals as goal

pub open_block-requires : goal.open_block-requires
open_block-requires c = (rw c.in-Opens.is at c.requires).1

pub reclaim_block-k-requires : goal.reclaim_block-k-requires
reclaim_block-k-requires c = (rw c.in-Reclaims.is at c.requires).1

pub returns-in-Continues : goal.returns-in-Continues
returns-in-Continues c = λ fst stamps e. rw c.in-Continues.is (made_continues _ _ _ _ fst _ _ _ stamps _ _ _)

pub returns-in-Opens : goal.returns-in-Opens
returns-in-Opens c = λ fst stamps e. rw c.in-Opens.is (made_opens _ _ _ _ fst _ _ _ stamps _ _ _ _ _ (rw c.in-Opens.is at c.requires).0 c.open_block.ensures)

pub returns-in-Reclaims : goal.returns-in-Reclaims
returns-in-Reclaims c =
    let a = rw c.in-Reclaims.is at c.requires in
    λ fst stamps e. rw c.in-Reclaims.is (made_by_marks _ _ _ _ _ _ _ _ _ _ a.0 a.1 fst stamps e _ _ _ _ _ _ c.reclaim_block-k.ensures)
