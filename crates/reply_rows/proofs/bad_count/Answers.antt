-- `reply_rows::bad_count`: the end of the run fits.
-- Assumes nothing.
use native.Mathlib.Omega.{arith}
use borrow.Author.Tests.{eq-eqb, ne_eqb}
use Rattle.rules.specs.Replies.{bad_count}
use Rattle.rules.proofs.Sizes.{sizes}
use Rattle.reply_rows.proofs.Rows.{end_low}
use Rattle.reply_rows.proofs.bad_count.Goals as goal

pub returns-then-count-eq0 : goal.returns-then-count-eq0
unfolding bad_count
returns-then-count-eq0 c = λ q l k. rw (k, eq-eqb _ _ c.if-count-eq0.true)

pub sector_of-requires : goal.sector_of-requires
sector_of-requires c = (sizes _ c.requires).sectors

pub overflow_add-result : goal.overflow_add-result
overflow_add-result c = omega (arith, end_low _ c.requires c.args.lba c.args.count (omega arith), c.sector_of.ensures)

pub returns : goal.returns
unfolding bad_count
returns c = λ q l k. rw (k, l, ne_eqb _ _ c.if-count-eq0.false, c.sector_of.ensures)
