-- `start_clusters::larger_stamp`: a frame without a block or without a page adds nothing, another adds its stamp if that is larger.
-- Assumes nothing.
use mathlib.Core.Path.{sym, ◌∙◌}
use native.Mathlib.Omega.{arith}
use borrow.Author.Tests.{not-true, not-false}
use Rattle.start_found.proofs.Views.{found_frame}
use Rattle.start_clusters.proofs.Stamps.{stamp_bare, stamp_begun, stamp_higher, stamp_lower}
use Rattle.start_clusters.proofs.larger_stamp.Goals as goal

pub returns-then-not-has_frame : goal.returns-then-not-has_frame
returns-then-not-has_frame c = stamp_bare _ _ _ c.requires.found _ _ c.requires.i_bound _ c.requires.last_value _ c.has_frame.ensures c.if-not-has_frame.true-raw

pub frame_at-fr-requires : goal.frame_at-fr-requires
frame_at-fr-requires c =
    record {
      found = c.requires.found;
      has_frame = found_frame _ _ _ _ c.requires.r_lt_mu c.requires.i_bound _ c.has_frame.ensures c.if-not-has_frame.false-raw;
    }

pub returns-then-not-is_programmed : goal.returns-then-not-is_programmed
returns-then-not-is_programmed c =
    stamp_begun _ _ _ c.requires.found _ _ c.requires.i_bound _ c.requires.last_value _ c.frame_at-fr.ensures.result_value (sym c.is_programmed.ensures ∙ not-true _ c.if-not-is_programmed.true-raw)

pub returns-then-t-last : goal.returns-then-t-last
returns-then-t-last c =
    stamp_higher _ _ _ c.requires.found _ _ c.requires.i_bound _ c.requires.last_value _ c.frame_at-fr.ensures.result_value (sym c.is_programmed.ensures ∙ not-false _ c.if-not-is_programmed.false-raw)
    _ c.stamp_in-t.ensures c.if-t-last.true

pub returns : goal.returns
returns c =
    stamp_lower _ _ _ c.requires.found _ _ c.requires.i_bound _ c.requires.last_value _ c.frame_at-fr.ensures.result_value (sym c.is_programmed.ensures ∙ not-false _ c.if-not-is_programmed.false-raw)
    _ c.stamp_in-t.ensures (omega (arith, c.if-t-last.false))
