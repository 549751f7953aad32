-- `bits::with_bit`: the word of one mark, joined to the word.
-- Assumes nothing.
use Rattle.bits.proofs.Words.{bits_set, one_shl}
use Rattle.bits.proofs.with_bit.Goals as goal

pub returns : goal.returns
returns c f e = rw (e, one_shl c.args.i c.requires) (bits_set 64 f c.args.i c.requires)
