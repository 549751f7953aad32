-- `chip_blocks::next_free`: the frames that the search passed are programmed, so that they are among the first k; the one that ended it is not.
use mathlib.Core.Path.{refl, ◌∙◌}
use native.Mathlib.Omega.{arith}
use Rattle.std.proofs.Common.{rules, tests, ◌≤◌}
use Rattle.loops.proofs.Ranges.{stop_run}
use Rattle.chip_blocks.proofs.Leading.{free_is}
use Rattle.chip_blocks.proofs.next_free.Goals as goal

pub returns : goal.returns
returns c k low w =
    let n = c.frames-n.ensures in
    let le : c.args.from ≤ c.frames-n.result = omega (arith, c.requires.from_bound, n) in
    c.unwrap_or.ensures ∙ free_is _ _ _ _ _ n (stop_run _ _ _ _ _ _ _ le refl c.find.ensures.ran (λ x b q k. search (rules, tests))) low w
