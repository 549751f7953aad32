-- `check_marks::is_valid`: test by test, each a law of the rule.
-- Assumes nothing.
use mathlib.Core.Path.{sym, ◌∙◌}
use borrow.Author.Tests.{eq-eqb, eqb-true, not-true, not-false}
use Rattle.lists.proofs.Tests.{never}
use Rattle.check_marks.proofs.Tested.{cluster_low, first_says, holds_at, place_is_low, begun, stale, last}
use Rattle.check_marks.proofs.is_valid.Goals as goal

pub returns-then-not-is_whole : goal.returns-then-not-is_whole
returns-then-not-is_whole c = λ r vw s. begun _ _ _ _ _ c.requires.one_frame r vw s _ c.frame_of-fr.ensures.result_value (sym c.is_whole.ensures ∙ not-true _ c.if-not-is_whole.true-raw)

pub ct_at-requires : goal.ct_at-requires
ct_at-requires c =
    cluster_low _ _ _ _ _ c.requires.one_frame _ c.frame_of-fr.ensures.result_value (sym c.is_whole.ensures ∙ not-false _ c.if-not-is_whole.false-raw) _
    (first_says _ _ _ _ _ c.requires.one_frame _ c.frame_of-fr.ensures.result_value (sym c.is_whole.ensures ∙ not-false _ c.if-not-is_whole.false-raw) _ c.last_cluster-c.ensures)

pub segment_in-requires : goal.segment_in-requires
segment_in-requires c =
    record {
      p_value = c.requires.one_frame.block.fine;
      v_lt_gamma = c.requires.one_frame.block.low;
      k_lt_d = place_is_low _ _ _ _ _ c.requires.one_frame _ c.requires.k_value;
    }

pub returns-then-ne : goal.returns-then-ne
returns-then-ne c =
    λ r vw s. stale _ _ _ _ _ c.requires.one_frame r vw s _ c.frame_of-fr.ensures.result_value (sym c.is_whole.ensures ∙ not-false _ c.if-not-is_whole.false-raw) _
    (first_says _ _ _ _ _ c.requires.one_frame _ c.frame_of-fr.ensures.result_value (sym c.is_whole.ensures ∙ not-false _ c.if-not-is_whole.false-raw) _
    c.last_cluster-c.ensures) _ _ _ c.requires.k_value c.ct_at.ensures.result_value c.segment_in.ensures
    (λ e. never (eq-eqb c.ct_at.result.0 c.segment_in.result.0 e) (not-true _ (sym c.ne.ensures ∙ c.if-ne.true)))

pub is_last-requires : goal.is_last-requires
is_last-requires c =
    holds_at _ _ _ _ _ c.requires.one_frame _ c.frame_of-fr.ensures.result_value (sym c.is_whole.ensures ∙ not-false _ c.if-not-is_whole.false-raw) _
    (first_says _ _ _ _ _ c.requires.one_frame _ c.frame_of-fr.ensures.result_value (sym c.is_whole.ensures ∙ not-false _ c.if-not-is_whole.false-raw) _
    c.last_cluster-c.ensures) _ c.requires.k_value

pub returns : goal.returns
returns c =
    λ r vw s. last _ _ _ _ _ c.requires.one_frame r vw s _ c.frame_of-fr.ensures.result_value (sym c.is_whole.ensures ∙ not-false _ c.if-not-is_whole.false-raw) _
    (first_says _ _ _ _ _ c.requires.one_frame _ c.frame_of-fr.ensures.result_value (sym c.is_whole.ensures ∙ not-false _ c.if-not-is_whole.false-raw) _
    c.last_cluster-c.ensures) _ _ _ _ c.requires.k_value
    c.ct_at.ensures.result_value c.segment_in.ensures (eqb-true c.ct_at.result.0 c.segment_in.result.0 (not-false _ (sym c.ne.ensures ∙ c.if-ne.false))) c.is_last.ensures
