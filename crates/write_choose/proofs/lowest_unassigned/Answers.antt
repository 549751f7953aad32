-- `write_choose::lowest_unassigned`: after v turns, each of the first v virtual blocks has a block.
-- Assumes nothing.
use mathlib.Core.Path.{ap, sym, ◌∙◌}
use mathlib.Core.Bool.{not}
use native.Mathlib.Omega.{arith}
use Rattle.loops.proofs.Below.{first_here, first_later, first_start}
use Rattle.rules.proofs.Sizes.{sizes}
use Rattle.write_choose.specs.Search.{lowest_none}
use Rattle.write_choose.proofs.Turns.{named_none}
use Rattle.write_choose.proofs.lowest_unassigned.Goals as goal

pub loop-v-init : goal.loop-v-init
unfolding lowest_none
loop-v-init c = first_start _ _

pub returns-then-is_none : goal.returns-then-is_none
unfolding lowest_none
returns-then-is_none c = (
  sym
      (first_here _ _ _ _
      (omega (arith, (sizes _ c.requires.p_value).gamma_high)) c.loop-v-test.true c.loop-v.invariant
      (sym (named_none _ _ c.block_named.ensures) ∙ ap not c.is_none.ensures ∙ rw c.if-is_none.true)),
  c.loop-v-test.true,
)

pub loop-v-preserved : goal.loop-v-preserved
unfolding lowest_none
loop-v-preserved c = first_later _ _ _ c.loop-v.invariant (sym (named_none _ _ c.block_named.ensures) ∙ ap not c.is_none.ensures ∙ rw c.if-is_none.false)
