-- `check_sound::sound_ok`: a bad block is not in use, a good one exactly if it is not erased.
-- Assumes nothing.
use mathlib.Core.Path.{sym, ◌∙◌}
use Rattle.rules.proofs.TableFacts.{chip_size}
use Rattle.check_sound.proofs.Sounds.{bad_passes, good_passes}
use Rattle.check_sound.proofs.sound_ok.Goals as goal

pub is_bad-requires : goal.is_bad-requires
is_bad-requires c =
    record {
      p_value = c.requires.p_value;
      chip_len = c.requires.chip_len ∙ chip_size c.args.p;
      n_lt_n = c.requires.n_lt_n;
    }

pub returns-then-is_bad : goal.returns-then-is_bad
returns-then-is_bad c = bad_passes _ _ _ (sym c.is_bad.ensures ∙ c.if-is_bad.true)

pub returns : goal.returns
returns c = good_passes _ _ _ (sym c.is_bad.ensures ∙ c.if-is_bad.false) _ (rw c.block_of.ensures.result_value at c.is_right.ensures)
