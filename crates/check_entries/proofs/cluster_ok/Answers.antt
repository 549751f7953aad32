-- `check_entries::cluster_ok`: by whether CT has a segment.
-- Assumes nothing.
use native.Mathlib.Nat.{mod-lt}
use Rattle.rules.proofs.Sizes.{sizes}
use Rattle.check_rules.specs.Check.{cluster_ok}
use Rattle.check_blocks.proofs.Blocks.{not_none}
use Rattle.check_entries.proofs.cluster_ok.Goals as goal

pub returns-in_default : goal.returns-in_default
unfolding cluster_ok
returns-in_default c = rw c.in_default.ensures

pub segment_ok-requires-clause-r_lt_mu : goal.segment_ok-requires-clause-r_lt_mu
segment_ok-requires-clause-r_lt_mu c = rw c.region_of-r.ensures (mod-lt c.args.c.0 (sizes _ c.requires.lent.fine).regions)

pub returns : goal.returns
unfolding cluster_ok
returns c = rw (← c.region_of-r.ensures, ← c.in-Some.ensures.0, not_none c.in-Some.sg.0 c.in-Some.ensures.1) c.segment_ok.ensures
