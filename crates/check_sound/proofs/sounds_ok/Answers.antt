-- `check_sound::sounds_ok`: every block that is in use is sound.
-- Assumes nothing.
use mathlib.Core.Path.{refl}
use Rattle.std.proofs.Common.{rules, tests}
use Rattle.loops.proofs.Ranges.{all_run}
use Rattle.rules.specs.Start.{sound_rule}
use Rattle.check_sound.proofs.sounds_ok.Goals as goal

pub returns : goal.returns
unfolding sound_rule
returns c = all_run _ _ _ _ refl c.all.ensures.ran (λ x b q k. search (rules, tests))
