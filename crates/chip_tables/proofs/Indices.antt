-- Indices of BT.
-- Assumes nothing.
use mathlib.Core.Path.{◌≡◌}
use Prim.Native.Nat.{ℕ, ◌+◌, ◌*◌, ◌<◌}
use native.Mathlib.Omega.{arith}
use Rattle.lists.proofs.Parts.{next}

-- the entry of virtual block v of region r lies in BT
pub entry_in : (n m k r v : ℕ) → n ≡ m * k → r < m → v < k → r * k + v < n
entry_in n m k r v e h l = omega (arith, next k r m h)
