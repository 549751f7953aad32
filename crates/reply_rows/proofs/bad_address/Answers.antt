-- `reply_rows::bad_address`: the number of all sectors fits.
-- Assumes nothing.
use mathlib.Core.Path.{refl}
use native.Mathlib.Omega.{arith}
use Rattle.rules.specs.Replies.{bad_address}
use Rattle.reply_rows.proofs.Rows.{sectors_low}
use Rattle.reply_rows.proofs.bad_address.Goals as goal

pub overflow_mul-result : goal.overflow_mul-result
overflow_mul-result c = omega (arith, sectors_low _ c.requires)

pub returns : goal.returns
unfolding bad_address
returns c = refl
