-- `check_start::can_start`: the blocks by themselves, then the regions.
-- Assumes nothing.
use mathlib.Core.Path.{sym, ◌∙◌}
use borrow.Author.Tests.{not-false, not-true}
use Rattle.check_start.proofs.Regions.{start_is, start_not}
use Rattle.check_start.proofs.can_start.Goals as goal

pub returns-then-not-sounds_ok : goal.returns-then-not-sounds_ok
returns-then-not-sounds_ok c = start_not _ _ _ c.sounds_ok.ensures (not-true _ c.if-not-sounds_ok.true-raw)

pub regions_ok-requires : goal.regions_ok-requires
regions_ok-requires c = record { fine = c.requires.p_value; size = c.requires.chip_len; sounds = sym c.sounds_ok.ensures ∙ not-false _ c.if-not-sounds_ok.false-raw }

pub returns : goal.returns
returns c = start_is _ _ _ c.sounds_ok.ensures (not-false _ c.if-not-sounds_ok.false-raw) _ c.regions_ok.ensures
