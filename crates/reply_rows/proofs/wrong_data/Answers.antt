-- `reply_rows::wrong_data`: the number of bytes fits.
-- Assumes nothing.
use native.Mathlib.Omega.{arith}
use Rattle.rules.specs.Replies.{wrong_data}
use Rattle.reply_rows.proofs.Rows.{bytes_low}
use Rattle.reply_rows.proofs.wrong_data.Goals as goal

pub overflow_mul-result : goal.overflow_mul-result
overflow_mul-result c = omega (arith, bytes_low _ c.requires c.args.count (omega arith))

pub returns : goal.returns
unfolding wrong_data
returns c = λ q k n. rw (k, n)
