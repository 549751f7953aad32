-- `check_apart::frame_apart`: not whole, not seen yet, found in its own block, or looked for in the blocks before: one law each.
-- Assumes nothing.
use mathlib.Core.Path.{sym, ◌∙◌}
use borrow.Author.Tests.{not-false, not-true}
use Rattle.check_apart.proofs.Turns.{frame_begun, frame_found, frame_looked, frame_new}
use Rattle.check_apart.proofs.Whole.{read_frame}
use Rattle.check_apart.proofs.frame_apart.Goals as goal

pub returns-then-not-is_whole : goal.returns-then-not-is_whole
returns-then-not-is_whole c =
    frame_begun _ _ _ _ _ _ c.requires.seen _ (read_frame _ _ _ _ _ c.frame_of-fr.ensures.result_value c.requires.blk_value)
    (sym c.is_whole.ensures ∙ not-true _ c.if-not-is_whole.true-raw)

pub returns-then-not-see : goal.returns-then-not-see
returns-then-not-see c =
    frame_new _ _ _ _ _ _ c.requires.seen _ (read_frame _ _ _ _ _ c.frame_of-fr.ensures.result_value c.requires.blk_value) _ c.stamp_in-t.ensures _ _
    c.see.ensures (not-true _ c.if-not-see.true-raw) (sym c.is_whole.ensures ∙ not-false _ c.if-not-is_whole.false-raw)

pub returns-then-not-lacks : goal.returns-then-not-lacks
returns-then-not-lacks c =
    frame_found _ _ _ _ _ _ c.requires.seen _ (read_frame _ _ _ _ _ c.frame_of-fr.ensures.result_value c.requires.blk_value) _ c.stamp_in-t.ensures _ _
    c.see.ensures (sym c.is_whole.ensures ∙ not-false _ c.if-not-is_whole.false-raw) _ c.cluster_in-c.ensures.result_value _ c.requires.blk_value
    (sym c.lacks.ensures ∙ not-true _ c.if-not-lacks.true-raw)

pub returns : goal.returns
returns c =
    frame_looked _ _ _ _ _ _ c.requires.seen _ (read_frame _ _ _ _ _ c.frame_of-fr.ensures.result_value c.requires.blk_value) _ c.stamp_in-t.ensures _ _
    c.see.ensures (sym c.is_whole.ensures ∙ not-false _ c.if-not-is_whole.false-raw) _ c.cluster_in-c.ensures.result_value _ c.requires.blk_value
    (sym c.lacks.ensures ∙ not-false _ c.if-not-lacks.false-raw) _ c.lack_before.ensures
