-- `start_blocks::name_fulls`: after n turns the full blocks below n are in BT.
-- Assumes nothing.
use Rattle.start_blocks.proofs.Fulls.{full_asked, fulls_turn}
use Rattle.start_blocks.proofs.name_fulls.Goals as goal

pub name_full-requires : goal.name_full-requires
name_full-requires c = full_asked _ _ _ c.requires.start_asked _ _ c.loop-n-test.true c.loop-n.invariant

pub loop-n-preserved : goal.loop-n-preserved
loop-n-preserved c = fulls_turn _ _ _ c.requires.start_asked _ c.loop-n-test.true _ _ c.loop-n.invariant c.name_full.ensures
