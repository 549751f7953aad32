-- `start_blocks::name_opens`: after n turns the blocks below n are gone over.
-- Assumes nothing.
use mathlib.Core.Path.{◌≡◌, ◌∙◌}
use native.Mathlib.Omega.{arith}
use Rattle.start_blocks.proofs.Opens.{open_asked, opens_done, opens_start, opens_turn, wear_same}
use Rattle.start_blocks.proofs.name_opens.Goals as goal

pub loop-n-init : goal.loop-n-init
loop-n-init c = (omega arith, λ a. opens_start _ _ _ _ a c.requires.bt_value)

pub name_open-k-requires : goal.name_open-k-requires
name_open-k-requires c =
    let so = c.loop-n.invariant.1 c.requires.start_asked in
    record {
      block_asked = open_asked _ _ _ _ c.requires.start_asked _ c.loop-n-test.true _ _ _ _ so;
      wear_len = wear_same _ _ _ _ c.requires.start_asked _ c.loop-n.invariant.0 _ _ _ _ so ∙ c.requires.wear_len;
    }

pub overflow_add-k : goal.overflow_add-k
overflow_add-k c =
    let low = c.loop-n-test.true in
    let turn = opens_turn _ _ _ _ c.requires.start_asked _ low _ _ _ _ (c.loop-n.invariant.1 c.requires.start_asked) _ _ _ _ c.name_open-k.ensures in
    omega (arith, turn.erased.few, low)

pub loop-n-preserved : goal.loop-n-preserved
loop-n-preserved c = (omega arith, λ a. opens_turn _ _ _ _ a _ c.loop-n-test.true _ _ _ _ (c.loop-n.invariant.1 a) _ _ _ _ c.name_open-k.ensures)

pub returns : goal.returns
returns c =
    let e : c.loop-n.n ≡ c.args.p.N = omega arith in
    opens_done _ _ _ _ c.requires.start_asked _ _ _ _ _ e (c.loop-n.invariant.1 c.requires.start_asked)
