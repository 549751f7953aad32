-- `queue_item::has_bytes`: the product and the sum fit.
-- Assumes nothing.
use native.Mathlib.Omega.{arith}
use Rattle.rules.specs.Requests.{lies}
use Rattle.reply_rows.proofs.Rows.{bytes_low}
use Rattle.queue_item.proofs.has_bytes.Goals as goal

pub overflow_mul-result : goal.overflow_mul-result
overflow_mul-result c = omega (arith, bytes_low _ c.requires c.args.count (omega arith))

pub overflow_add-result : goal.overflow_add-result
overflow_add-result c = omega (arith, bytes_low _ c.requires c.args.count (omega arith))

pub returns : goal.returns
unfolding lies
returns c = λ bytes lba e. rw e
