-- `chip_words::word`: two times four bytes.
-- Assumes nothing.
use native.Mathlib.Omega.{arith}
use Rattle.chip_words.proofs.Words.{eight_bytes}
use Rattle.chip_words.proofs.word.Goals as goal

pub returns : goal.returns
returns c = omega (arith, eight_bytes c.args.a c.args.part.now)
