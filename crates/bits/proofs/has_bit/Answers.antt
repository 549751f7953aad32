-- `bits::has_bit`: the mask 1 leaves the lowest bit of the shifted word, which is the mark.
-- Assumes nothing.
use mathlib.Core.Path.{ap, ◌∙◌}
use Prim.Native.Nat.{◌/◌, ◌^◌, ℕ}
use lib.Bits.{and_mask}
use lib.Dec.{eqb}
use Rattle.bits.proofs.Words.{bits_at}
use Rattle.bits.proofs.has_bit.Goals as goal

pub returns : goal.returns
returns c f e = ap (λ (x : ℕ). eqb x 1) (and_mask (c.args.word / 2 ^ c.args.i) 1) ∙ rw e (bits_at 64 f c.args.i c.requires)
