-- `chip_heads::head_of`: no programmed first frame, or bad, so not in use; else in use, and so sound.
-- Assumes nothing.
use mathlib.Core.Path.{sym, ◌∙◌}
use Rattle.rules.proofs.Sizes.{sizes}
use Rattle.rules.proofs.TableFacts.{chip_size}
use Rattle.chip_heads.proofs.Sound.{bad_unused, begun_used, blank_unused}
use Rattle.chip_heads.proofs.Heads.{first_read}
use Rattle.chip_heads.proofs.head_of.Goals as goal
use Rattle.chip_heads.proofs.head_of.Goals.{then-not-is_programmed-via-then-not-is_programmed, then-not-is_programmed-via-else-not-is_programmed+then-is_bad}

pub frame_of-requires-clause-f_bound : goal.frame_of-requires-clause-f_bound
frame_of-requires-clause-f_bound c = (sizes _ c.requires.p_value).some

pub is_bad-requires-clause-chip_len : goal.is_bad-requires-clause-chip_len
is_bad-requires-clause-chip_len c = c.requires.chip_len ∙ chip_size c.args.p

pub returns-then-not-is_programmed : goal.returns-then-not-is_programmed
returns-then-not-is_programmed c =
    let on = first_read _ _ _ _ _ _ c.block_of-blk.ensures.result_value c.frame_of.ensures.result_value c.is_programmed.ensures in
    elim c.then-not-is_programmed.branch [
      | then-not-is_programmed-via-then-not-is_programmed w ↦ blank_unused _ (sizes _ c.requires.p_value) _ _ c.requires.n_value (sym on ∙ w.if-not-is_programmed.true)
      | then-not-is_programmed-via-else-not-is_programmed+then-is_bad w ↦ bad_unused _ _ _ (sym w.is_bad.ensures ∙ w.if-is_bad.true)
    ]

pub says-requires-clause-blk_value : goal.says-requires-clause-blk_value
says-requires-clause-blk_value c =
    let on = first_read _ _ _ _ _ _ c.block_of-blk.ensures.result_value c.frame_of.ensures.result_value c.is_programmed.ensures in
    rw c.block_of-blk.ensures.result_value (c.requires.n_value (begun_used _ _ _ (sym c.is_bad.ensures ∙ c.if-is_bad.false) (sym on ∙ c.if-not-is_programmed.false)))

pub returns : goal.returns
returns c =
    let on = first_read _ _ _ _ _ _ c.block_of-blk.ensures.result_value c.frame_of.ensures.result_value c.is_programmed.ensures in
    (begun_used _ _ _ (sym c.is_bad.ensures ∙ c.if-is_bad.false) (sym on ∙ c.if-not-is_programmed.false), rw c.block_of-blk.ensures.result_value at c.says.ensures)
