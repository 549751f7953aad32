-- `bits::without_bit`: the word of every mark but one keeps the others.
-- Assumes nothing.
use Rattle.bits.proofs.Words.{bits_clear, one_shl}
use Rattle.bits.proofs.without_bit.Goals as goal

pub returns : goal.returns
returns c f e = rw (e, one_shl c.args.i c.requires) (bits_clear 64 f c.args.i c.requires)
