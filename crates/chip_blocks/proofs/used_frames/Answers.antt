-- `chip_blocks::used_frames`: some frame is good, and what comes after the good ones is erased; then these are the programmed ones.
-- Assumes nothing.
use mathlib.Core.Path.{sym, ◌∙◌, ◌≡◌}
use mathlib.Core.Bool.{◌&&◌, false, true}
use borrow.Author.Tests.{not-false, not-true}
use Rattle.rules.specs.Orderly.{block_rule, stamps_to}
use Rattle.rules.proofs.Sizes.{sizes}
use Rattle.chip_blocks.proofs.Leading.{filled_is, none_good, rest_is}
use Rattle.chip_blocks.proofs.used_frames.Goals as goal

pub returns-then-k-eq0 : goal.returns-then-k-eq0
returns-then-k-eq0 c =
    let e : false ≡ block_rule c.args.p c.args.r c.args.v.0 c.args.blk.now && stamps_to c.args.p c.args.last c.args.blk.now =
    none_good _ (sizes _ c.requires.p_value) _ _ _ _ c.requires.blk_len _ c.good_frames-k.ensures.upper_bound c.good_frames-k.ensures.f_value c.good_frames-k.ensures.result_value c.if-k-eq0.true in
    rw (← e)

pub returns-then-not-rest_erased : goal.returns-then-not-rest_erased
returns-then-not-rest_erased c =
    let e : false ≡ block_rule c.args.p c.args.r c.args.v.0 c.args.blk.now && stamps_to c.args.p c.args.last c.args.blk.now =
    sym (not-true _ c.if-not-rest_erased.true-raw) ∙ c.rest_erased.ensures ∙ rest_is _ (sizes _ c.requires.p_value) _ _ _ _ c.requires.blk_len _ c.good_frames-k.ensures.upper_bound c.good_frames-k.ensures.f_value c.good_frames-k.ensures.result_value c.if-k-eq0.false in
    rw (← e)

pub returns : goal.returns
returns c =
    let e : true ≡ block_rule c.args.p c.args.r c.args.v.0 c.args.blk.now && stamps_to c.args.p c.args.last c.args.blk.now =
    sym (not-false _ c.if-not-rest_erased.false-raw) ∙ c.rest_erased.ensures ∙ rest_is _ (sizes _ c.requires.p_value) _ _ _ _ c.requires.blk_len _ c.good_frames-k.ensures.upper_bound c.good_frames-k.ensures.f_value c.good_frames-k.ensures.result_value c.if-k-eq0.false in
    rw (← e) (sym (filled_is _ (sizes _ c.requires.p_value) _ _ _ _ c.requires.blk_len _ c.good_frames-k.ensures.upper_bound c.good_frames-k.ensures.f_value c.good_frames-k.ensures.result_value (sym e)))
