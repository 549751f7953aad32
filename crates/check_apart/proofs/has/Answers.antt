-- `check_apart::has`: by the stamp, then by the cluster, then by whether the frame is whole.
-- Assumes nothing.
use Rattle.std.proofs.Common.{rules, tests}
use Rattle.check_apart.proofs.Whole.{has_cluster, has_is, has_stamp}
use Rattle.check_apart.proofs.has.Goals as goal

pub returns-then-stamp_in-t : goal.returns-then-stamp_in-t
returns-then-stamp_in-t c = has_stamp _ _ _ _ _ c.stamp_in.ensures c.if-stamp_in-t.true

pub returns-then-ne : goal.returns-then-ne
returns-then-ne c = has_cluster _ _ _ _ _ c.cluster_in.ensures.result_value (λ e. search (rules, tests))

pub returns : goal.returns
returns c = has_is _ _ _ _ _ _ c.stamp_in.ensures c.if-stamp_in-t.false c.cluster_in.ensures.result_value (search (rules, tests)) _ c.is_whole.ensures
