-- `chip_blocks::good_frame`: the cluster is low and of the region, and the stamp not above the last; with every page right the frame is good, else the pages up to
-- the first that is not decide with what follows them.
-- Assumes nothing.
use mathlib.Core.Path.{refl, sym, ◌∙◌}
use native.Mathlib.Omega.{arith}
use borrow.Author.Tests.{not-false}
use Rattle.rules.proofs.Sizes.{sizes}
use Rattle.chip_blocks.proofs.Begun.{all_good, begun_decides}
use Rattle.chip_blocks.proofs.Frames.{fit_is, fit_late, fit_not, good_high, good_other}
use Rattle.chip_blocks.proofs.good_frame.Goals as goal

pub cluster_in-c-requires : goal.cluster_in-c-requires
cluster_in-c-requires c =
    record {
      p_value = c.requires.p_value;
      frame_len = c.requires.fr_len;
    }

pub returns-then-c-p : goal.returns-then-c-p
returns-then-c-p c = fit_not _ _ _ _ _ (good_high _ _ _ _ _ c.cluster_in-c.ensures.result_value c.if-c-p.true)

pub region_of-requires : goal.region_of-requires
region_of-requires c =
    record {
      p_value = c.requires.p_value;
      c_lt_c = omega arith;
    }

pub returns-then-region_of-r : goal.returns-then-region_of-r
returns-then-region_of-r c =
    fit_not _ _ _ _ _
    (good_other _ _ _ _ _ c.cluster_in-c.ensures.result_value c.if-c-p.false (λ e. c.if-region_of-r.true (c.region_of.ensures ∙ e)))

pub stamp_in-t-requires : goal.stamp_in-t-requires
stamp_in-t-requires c =
    record {
      p_value = c.requires.p_value;
      frame_len = c.requires.fr_len;
    }

pub returns-then-t-last : goal.returns-then-t-last
returns-then-t-last c = fit_late _ _ _ _ _ _ c.stamp_in-t.ensures c.if-t-last.true

pub overflow_cast-of : goal.overflow_cast-of
overflow_cast-of c = omega (arith, c.requires.v_lt_gamma, (sizes _ c.requires.p_value).gamma_high)

pub all_right-requires : goal.all_right-requires
all_right-requires c =
    record {
      p_value = c.requires.p_value;
      fr_len = c.requires.fr_len;
    }

pub right_pages-requires : goal.right_pages-requires
right_pages-requires c =
    record {
      p_value = c.requires.p_value;
      fr_len = c.requires.fr_len;
    }

pub only_begun-requires : goal.only_begun-requires
only_begun-requires c =
    record {
      p_value = c.requires.p_value;
      fr_len = c.requires.fr_len;
      j_le_alpha = c.right_pages.ensures.upper_bound;
    }

pub returns-then-not-all_right : goal.returns-then-not-all_right
returns-then-not-all_right c =
    fit_is _ _ _ _ _ _ c.stamp_in-t.ensures _ c.if-t-last.false
    (c.only_begun.ensures ∙ begun_decides _ (sizes _ c.requires.p_value) _ _ c.args.fr.now c.requires.fr_len _ c.cluster_in-c.ensures.result_value _
    c.stamp_in-t.ensures c.if-c-p.false (sym c.region_of.ensures ∙ c.if-region_of-r.false) _ c.right_pages.ensures.upper_bound c.right_pages.ensures.vblock_value c.right_pages.ensures.vblock_value_2)

pub returns : goal.returns
returns c =
    fit_is _ _ _ _ _ _ c.stamp_in-t.ensures _ c.if-t-last.false
    (all_good _ (sizes _ c.requires.p_value) _ _ c.args.fr.now c.requires.fr_len _ c.cluster_in-c.ensures.result_value _
    c.stamp_in-t.ensures c.if-c-p.false (sym c.region_of.ensures ∙ c.if-region_of-r.false) _ (omega arith)
    (sym c.all_right.ensures ∙ not-false _ c.if-not-all_right.false-raw) (λ h. absurd (omega (arith, h))) refl)
