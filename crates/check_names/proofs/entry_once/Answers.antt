-- `check_names::entry_once`: every entry is entry i itself or does not name its block.
-- Assumes nothing.
use mathlib.Core.Path.{refl}
use Rattle.std.proofs.Common.{rules, tests}
use Rattle.loops.proofs.Ranges.{all_run}
use Rattle.check_names.proofs.entry_once.Goals as goal

pub returns : goal.returns
returns c = rw (← c.requires.bt_len) (all_run _ _ _ _ refl c.all.ensures.ran (λ x b q k. search (rules, tests)))
