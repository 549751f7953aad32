-- `start_blocks::left_kind`: by what the block's head says, and by the entry that it names.
-- Assumes nothing.
use Rattle.std.proofs.Common.{rules, tests}
use Rattle.start_blocks.proofs.Heads.{many_alone, many_full, many_over, many_unused}
use Rattle.start_blocks.proofs.left_kind.Goals as goal

pub returns-in_default : goal.returns-in_default
returns-in_default c = rw (many_unused _ _ _ _ c.requires c.in_default.ensures)

pub returns-then-h : goal.returns-then-h
returns-then-h c = rw (many_full _ _ _ _ _ c.in-Some.ensures c.if-h.true)

pub returns-then-is_none : goal.returns-then-is_none
returns-then-is_none c = rw (many_alone _ _ c.args.bt.now _ _ c.in-Some.ensures c.if-h.false (search (rules, tests)))

pub returns : goal.returns
returns c = rw (many_over _ _ c.args.bt.now _ _ c.in-Some.ensures c.if-h.false (λ e. search (rules, tests)))
