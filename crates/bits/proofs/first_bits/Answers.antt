-- `bits::first_bits`: n ones are one less than the power.
-- Assumes nothing.
use mathlib.Core.Path.{ap, sym, ◌∙◌}
use Prim.Native.Nat.{◌-◌, ◌<◌, ◌^◌, ℕ}
use lib.Pow.{pow_pos}
use borrow.Author.Rules.{rules}
use Rattle.bits.proofs.Words.{bits_first, one_shl}
use Rattle.bits.proofs.first_bits.Goals as goal
use Rattle.bits.proofs.first_bits.Goals.{Else-n-eq64}

pub returns-then-n-eq64 : goal.returns-then-n-eq64
returns-then-n-eq64 c = ap (λ (n : ℕ). 2 ^ n - 1) (sym c.if-n-eq64.true) ∙ sym (bits_first 64 c.args.n c.requires)

below : (c : Else-n-eq64) → c.args.n < 64
below c = search rules

pub overflow_sub-result : goal.overflow_sub-result
overflow_sub-result c = rw (one_shl c.args.n (below (goal.at.overflow_sub-result c).Else-n-eq64)) (pow_pos c.args.n)

pub returns : goal.returns
returns c = rw (one_shl c.args.n (below (goal.at.returns c).Else-n-eq64)) (sym (bits_first 64 c.args.n c.requires))
