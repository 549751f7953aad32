-- `cut_write::erase_ops`: by whether the next erase wears the block out.
-- Assumes nothing.
use mathlib.Core.Path.{sym, ◌∙◌}
use native.Mathlib.Omega.{arith}
use Rattle.cut_write.proofs.Counts.{erases_one, erases_two}
use Rattle.cut_write.proofs.erase_ops.Goals as goal

pub returns-then-wears_out : goal.returns-then-wears_out
returns-then-wears_out c =
    record {
      value = erases_two _ _ _ (sym c.wears_out.ensures ∙ c.if-wears_out.true);
      upper_bound = omega arith;
    }

pub returns : goal.returns
returns c =
    record {
      value = erases_one _ _ _ (sym c.wears_out.ensures ∙ c.if-wears_out.false);
      upper_bound = omega arith;
    }
