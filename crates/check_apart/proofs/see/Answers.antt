-- `check_apart::see`: the word that is stored is the one that was read, with one bit set.
-- Assumes nothing.
use mathlib.Core.Path.{refl}
use Prim.Native.Nat.{◌/◌, ◌%◌}
use native.Mathlib.Omega.{arith}
use Rattle.check_apart.proofs.Seen.{sees}
use Rattle.check_apart.proofs.see.Goals as goal

pub returns : goal.returns
returns c =
    let t = c.args.t in
    sees c.args.seen.now c.requires t _ _ _ refl (omega (arith, c.slice_known-2-1.given (t / 64 % 256))) c.with_bit.ensures c.has_bit.ensures
