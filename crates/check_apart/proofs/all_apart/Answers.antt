-- `check_apart::all_apart`: every frame of the virtual blocks passed differs from those before it, and was seen.
-- Assumes nothing.
use mathlib.Core.Path.{sym, ◌∙◌}
use native.Mathlib.Omega.{arith}
use Rattle.loops.proofs.Below.{all_end, all_fails, all_more, all_start}
use Rattle.check_apart.specs.Apart.{kept_apart}
use Rattle.check_apart.proofs.Turns.{seen_start}
use Rattle.check_apart.proofs.all_apart.Goals as goal

pub loop-v-init : goal.loop-v-init
loop-v-init c = (all_start _, seen_start _ _ _ _ c.requires.seen_len)

pub returns-then-not-vblock_apart : goal.returns-then-not-vblock_apart
unfolding kept_apart
returns-then-not-vblock_apart c = sym (all_fails _ c.loop-v.v _ c.loop-v-test.true (sym c.vblock_apart.ensures.said ∙ c.if-not-vblock_apart.true))

pub loop-v-preserved : goal.loop-v-preserved
loop-v-preserved c =
    let done = c.vblock_apart.ensures in
    (all_more _ _ c.loop-v.invariant.0 (sym done.said ∙ c.if-not-vblock_apart.false), done.seen c.if-not-vblock_apart.false)

pub returns : goal.returns
unfolding kept_apart
returns c = sym (all_end _ _ _ (omega arith) c.loop-v.invariant.0)
