-- The number tells the reply and document 01's two counts.
-- Assumes nothing.
use mathlib.Core.Path.{◌≡◌}
use Prim.Native.Nat.{◌<◌}
use native.Mathlib.Omega.{arith}
use Rattle.rules.specs.declared.Answer.{Answer}
use Rattle.rules.specs.Replies.{number_of}
use Rattle.rules.proofs.Outcomes.{number_low}
use Rattle.c_answer.specs.Packed.{packed}

-- two answers with the same number have the same reply number and the same counts
pub packed_apart : (a b : Answer) → a.programs < 65536 → b.programs < 65536 → packed a ≡ packed b
    → (number_of a.reply ≡ number_of b.reply) × (a.programs ≡ b.programs) × (a.erases ≡ b.erases)
unfolding packed
packed_apart a b h k e =
    let m = number_low a.reply in
    let n = number_low b.reply in
    (omega arith, omega arith, omega arith)
