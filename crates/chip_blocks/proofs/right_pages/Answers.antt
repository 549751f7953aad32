-- `chip_blocks::right_pages`: every page passed has the spare bytes, and the one that ends the loop has not.
use Rattle.std.proofs.Common.{arith, sym, ◌∙◌}
use Rattle.loops.proofs.Below.{all_end, all_more, all_start}
use Rattle.chip_blocks.proofs.right_pages.Goals as goal

pub loop-j-init : goal.loop-j-init
loop-j-init c = all_start _

pub returns-then-not-spare_right : goal.returns-then-not-spare_right
returns-then-not-spare_right c =
    record {
      upper_bound = omega (arith, c.loop-j-test.true);
      vblock_value = c.loop-j.invariant;
      vblock_value_2 = λ h. sym c.spare_right.ensures ∙ c.if-not-spare_right.true;
    }

pub loop-j-preserved : goal.loop-j-preserved
loop-j-preserved c = all_more _ _ c.loop-j.invariant (sym c.spare_right.ensures ∙ c.if-not-spare_right.false)

pub returns : goal.returns
returns c =
    record {
      upper_bound = omega arith;
      vblock_value = all_end _ _ _ (omega arith) c.loop-j.invariant;
      vblock_value_2 = λ h. absurd (omega (arith, h));
    }
