-- `check_sound::is_right`: a block whose first frame is programmed is not erased, any other is not sound.
-- Assumes nothing.
use mathlib.Core.Path.{sym, ap, ◌∙◌}
use Rattle.rules.specs.Pages.{programmed}
use Rattle.rules.proofs.Sizes.{sizes}
use Rattle.check_sound.proofs.Sounds.{begun_right, blank_right}
use Rattle.check_sound.proofs.is_right.Goals as goal

pub frame_of-requires : goal.frame_of-requires
frame_of-requires c =
    record {
      p_value = c.requires.p_value;
      blk_len = c.requires.blk_len;
      f_bound = (sizes _ c.requires.p_value).some;
    }

pub returns-then-is_programmed : goal.returns-then-is_programmed
returns-then-is_programmed c =
    let e = c.is_programmed.ensures ∙ ap (programmed c.args.p) c.frame_of.ensures.result_value in
    begun_right _ _ (sym e ∙ c.if-is_programmed.true) _ c.is_sound.ensures

pub returns : goal.returns
returns c =
    let e = c.is_programmed.ensures ∙ ap (programmed c.args.p) c.frame_of.ensures.result_value in
    blank_right _ (sizes _ c.requires.p_value) _ (sym e ∙ c.if-is_programmed.false) _ c.is_erased.ensures
