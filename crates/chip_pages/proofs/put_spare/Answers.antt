-- `chip_pages::put_spare`: the sixteen bytes put are the whole spare area.
-- Assumes nothing.
use mathlib.Core.Path.{ap, sym, ◌∙◌, ◌≡◌}
use native.Mathlib.Omega.{arith}
use lib.ListN.{length}
use Rattle.rules.specs.Pages.{bytes32, spare_bytes}
use Rattle.chip_pages.proofs.Places.{put_whole}
use Rattle.chip_pages.proofs.put_spare.Goals as goal

pub put-requires : goal.put-requires
unfolding spare_bytes bytes32
put-requires c = omega (arith, ap length c.requires, ap length c.spare_bytes-m.ensures)

pub returns : goal.returns
unfolding spare_bytes bytes32
returns c =
    let e : length c.args.spare.now ≡ length c.spare_bytes-m.result = ap length c.requires ∙ sym (ap length c.spare_bytes-m.ensures) in
    c.put.ensures ∙ put_whole _ _ e ∙ c.spare_bytes-m.ensures
