-- A part of a list that is lent and comes back: what is lent, and the whole once it is back.
-- Assumes nothing.
use mathlib.Core.Path.{◌≡◌}
use mathlib.Core.List.{List, ◌++◌, append_assoc}
use Prim.Native.Nat.{ℕ, ◌+◌, ◌*◌, ◌-◌, ◌≤◌}
use native.Mathlib.Omega.{arith}
use lib.ListN.{length, take, drop}
use lib.Seq.{drop-drop}
use Rattle.lists.specs.Parts.{part, put_part}
use Rattle.lists.proofs.Parts.{part_length}

pub width : (a w : ℕ) → a + w - a ≡ w
width a w = omega arith

-- w bytes from a on
pub lent : (a w : ℕ) (l : List ℕ) → take (a + w - a) (drop a l) ≡ take w (drop a l)
lent a w l = rw width

-- part i
pub lent_part : (w i : ℕ) (l : List ℕ) → take (i * w + w - i * w) (drop (i * w) l) ≡ part w i l
unfolding part
lent_part w i l = rw width

pub lent_length : (w i : ℕ) (l : List ℕ) → i * w + w ≤ length l → length (take (i * w + w - i * w) (drop (i * w) l)) ≡ w
lent_length w i l h = rw (lent_part w i l) (part_length w i l h)

-- the part that was lent is x when it comes back
pub back : (w i : ℕ) (x l : List ℕ) → take (i * w) l ++ (x ++ drop w (drop (i * w) l)) ≡ put_part w i x l
unfolding put_part
back w i x l = rw (drop-drop, append_assoc)
