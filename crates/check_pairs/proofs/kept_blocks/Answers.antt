-- `check_pairs::kept_blocks`: the rows are filled, the open blocks counted, and the kept ones gathered; each answer is one law over the rows.
-- Assumes nothing.
use borrow.Author.Tests.{not-false, not-true}
use Rattle.rules.proofs.Sizes.{sizes}
use Rattle.check_pairs.proofs.Opens.{kept_all, kept_refused, kept_two, rows_long}
use Rattle.check_pairs.proofs.kept_blocks.Goals as goal

pub returns-then-not-fill : goal.returns-then-not-fill
returns-then-not-fill c = kept_refused _ (sizes _ c.requires.asked.fine) _ c.requires.asked.size _ _ (not-true _ c.if-not-fill.true-raw) _ _ _ c.fill.ensures

pub count_open-requires : goal.count_open-requires
count_open-requires c =
    let both = rows_long _ (sizes _ c.requires.asked.fine) _ _ _ _ _ (not-false _ c.if-not-fill.false-raw) c.fill.ensures in
    record { gamma_in_bounds = both.0; gamma_in_bounds_2 = both.1 }

pub returns-then-count_open-gt1 : goal.returns-then-count_open-gt1
returns-then-count_open-gt1 c =
    kept_two _ (sizes _ c.requires.asked.fine) _ c.requires.asked.size _ _ (not-false _ c.if-not-fill.false-raw) _ _ c.fill.ensures _ c.count_open.ensures
    c.if-count_open-gt1.true _

pub keep-requires : goal.keep-requires
keep-requires c =
    let both = rows_long _ (sizes _ c.requires.asked.fine) _ _ _ _ _ (not-false _ c.if-not-fill.false-raw) c.fill.ensures in
    record { gamma_in_bounds = both.0; gamma_in_bounds_2 = both.1 }

pub returns : goal.returns
returns c =
    kept_all _ (sizes _ c.requires.asked.fine) _ c.requires.asked.size _ _ (not-false _ c.if-not-fill.false-raw) _ _ c.fill.ensures _ c.count_open.ensures
    c.if-count_open-gt1.false _ c.keep.ensures.full_len_unchanged c.keep.ensures.by_index
