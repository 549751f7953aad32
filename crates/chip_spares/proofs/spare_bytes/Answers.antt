-- `chip_spares::spare_bytes`: the list is written out.
-- Assumes nothing.
use mathlib.Core.Path.{refl}
use Rattle.rules.specs.Pages.{bytes32, spare_bytes}
use Rattle.chip_spares.proofs.spare_bytes.Goals as goal

pub returns : goal.returns
unfolding spare_bytes bytes32
returns c = refl
