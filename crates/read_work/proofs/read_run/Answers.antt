-- `read_work::read_run`: after i turns the first i sectors stand in the data.
-- Assumes nothing.
use mathlib.Core.Path.{◌≡◌, refl, ap, ◌∙◌}
use native.Mathlib.Omega.{arith}
use lib.ListN.{length}
use Rattle.read_work.proofs.Runs.{start, asked, turn, turn_length, done}
use Rattle.read_work.proofs.read_run.Goals as goal

pub loop-i-init : goal.loop-i-init
loop-i-init c = (refl, start _ _ _ _ _ _ _ c.requires)

pub place_sector-requires : goal.place_sector-requires
place_sector-requires c = asked _ _ _ _ _ _ _ c.requires _ c.loop-i-test.true _ c.loop-i.invariant.0

pub loop-i-preserved : goal.loop-i-preserved
loop-i-preserved c =
    let e = c.place_sector.ensures in
    let h = c.loop-i-test.true in
    let inv = c.loop-i.invariant in
    (ap length e ∙ turn_length _ _ _ _ _ _ _ c.requires _ h _ inv.0, e ∙ turn _ _ _ _ _ _ _ c.requires _ h _ inv.1)

pub shape_of-bytes : goal.shape_of-bytes
shape_of-bytes c = c.loop-i.invariant.0

pub returns : goal.returns
returns c =
    let e : c.loop-i.i ≡ c.args.count = omega arith in
    done _ _ _ _ _ _ _ c.requires _ _ e c.loop-i.invariant.1
