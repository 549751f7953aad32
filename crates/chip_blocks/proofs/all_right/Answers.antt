-- `chip_blocks::all_right`: every page passed has the spare bytes; one that has not ends the loop.
use Rattle.std.proofs.Common.{arith, sym, ◌∙◌}
use Rattle.loops.proofs.Below.{all_end, all_fails, all_more, all_start}
use Rattle.chip_blocks.proofs.all_right.Goals as goal

pub loop-j-init : goal.loop-j-init
loop-j-init c = all_start _

pub returns-then-not-spare_right : goal.returns-then-not-spare_right
returns-then-not-spare_right c = sym (all_fails _ c.loop-j.j _ c.loop-j-test.true (sym c.spare_right.ensures ∙ c.if-not-spare_right.true))

pub loop-j-preserved : goal.loop-j-preserved
loop-j-preserved c = all_more _ _ c.loop-j.invariant (sym c.spare_right.ensures ∙ c.if-not-spare_right.false)

pub returns : goal.returns
returns c = sym (all_end _ _ _ (omega arith) c.loop-j.invariant)
