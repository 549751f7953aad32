-- `start_clusters::take_frame`: a frame without a block, or not whole, changes nothing; another is its cluster's newest, or older than what CT has.
-- Assumes nothing.
use mathlib.Core.Path.{sym, ◌∙◌}
use native.Mathlib.Omega.{arith}
use borrow.Author.Tests.{eqb-true, not-false, not-true}
use Rattle.start_found.proofs.Views.{found_frame}
use Rattle.start_clusters.proofs.Newest.{begun, entry_has, in_ct, older, small, taken, unassigned}
use Rattle.start_clusters.proofs.take_frame.Goals as goal

pub returns-then-not-has_frame : goal.returns-then-not-has_frame
returns-then-not-has_frame c = unassigned _ _ _ _ _ _ c.requires (eqb-true _ _ (not-false _ (sym c.has_frame.ensures ∙ not-true _ c.if-not-has_frame.true-raw)))

pub frame_at-fr-requires : goal.frame_at-fr-requires
frame_at-fr-requires c =
    record {
      found = c.requires.found;
      has_frame = found_frame _ _ _ _ c.requires.region c.requires.low _ c.has_frame.ensures c.if-not-has_frame.false-raw;
    }

pub returns-then-not-is_whole : goal.returns-then-not-is_whole
returns-then-not-is_whole c = begun _ _ _ _ _ _ c.requires _ c.frame_at-fr.ensures.result_value (sym c.is_whole.ensures ∙ not-true _ c.if-not-is_whole.true-raw)

pub ct_at-m-requires : goal.ct_at-m-requires
ct_at-m-requires c =
    let a = c.requires in
    let has = found_frame _ _ _ _ a.region a.low _ c.has_frame.ensures c.if-not-has_frame.false-raw in
    in_ct _ _ _ _ _ _ a has _ c.frame_at-fr.ensures.result_value (sym c.is_whole.ensures ∙ not-false _ c.if-not-is_whole.false-raw) _ c.last_cluster-c.ensures

pub is_newer-requires : goal.is_newer-requires
is_newer-requires c =
    let a = c.requires in
    let has = found_frame _ _ _ _ a.region a.low _ c.has_frame.ensures c.if-not-has_frame.false-raw in
    record {
      found = a.found;
      has_frame = has;
      has_frame_2 =
          entry_has _ _ _ _ _ _ a has _ c.frame_at-fr.ensures.result_value (sym c.is_whole.ensures ∙ not-false _ c.if-not-is_whole.false-raw) _
          c.last_cluster-c.ensures _ c.ct_at-m.ensures.result_value;
    }

pub overflow_cast-ct : goal.overflow_cast-ct
overflow_cast-ct c = omega (arith, small _ _ _ _ _ _ c.requires)

pub offset_bounds-ct-k : goal.offset_bounds-ct-k
offset_bounds-ct-k c =
    let a = c.requires in
    let has = found_frame _ _ _ _ a.region a.low _ c.has_frame.ensures c.if-not-has_frame.false-raw in
    omega (arith, in_ct _ _ _ _ _ _ a has _ c.frame_at-fr.ensures.result_value (sym c.is_whole.ensures ∙ not-false _ c.if-not-is_whole.false-raw) _ c.last_cluster-c.ensures)

pub bounds-ct-k : goal.bounds-ct-k
bounds-ct-k c =
    let a = c.requires in
    let has = found_frame _ _ _ _ a.region a.low _ c.has_frame.ensures c.if-not-has_frame.false-raw in
    in_ct _ _ _ _ _ _ a has _ c.frame_at-fr.ensures.result_value (sym c.is_whole.ensures ∙ not-false _ c.if-not-is_whole.false-raw) _ c.last_cluster-c.ensures

pub returns-then-is_newer : goal.returns-then-is_newer
returns-then-is_newer c =
    let a = c.requires in
    let has = found_frame _ _ _ _ a.region a.low _ c.has_frame.ensures c.if-not-has_frame.false-raw in
    taken _ _ _ _ _ _ a has _ c.frame_at-fr.ensures.result_value (sym c.is_whole.ensures ∙ not-false _ c.if-not-is_whole.false-raw) _ c.last_cluster-c.ensures _ c.ct_at-m.ensures.result_value
    _ c.is_newer.ensures c.if-is_newer.true

pub returns-else-is_newer : goal.returns-else-is_newer
returns-else-is_newer c =
    let a = c.requires in
    let has = found_frame _ _ _ _ a.region a.low _ c.has_frame.ensures c.if-not-has_frame.false-raw in
    older _ _ _ _ _ _ a has _ c.frame_at-fr.ensures.result_value (sym c.is_whole.ensures ∙ not-false _ c.if-not-is_whole.false-raw) _ c.last_cluster-c.ensures _ c.ct_at-m.ensures.result_value
    _ c.is_newer.ensures c.if-is_newer.false
