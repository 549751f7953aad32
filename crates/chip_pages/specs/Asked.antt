-- What a program and a copy ask of the chip: the page lies on it and is all ones.
-- Assumes nothing.
use Rattle.std.specs.Prelude.{◌≡◌, List, ℕ, ◌+◌, ◌*◌, ◌≤◌, length, replicate}
use Rattle.lists.specs.Parts.{part}

-- page q, of w bytes, lies on the chip and is erased
pub record Blank (chip : List ℕ) (w q : ℕ) : Type 0 where
  pub small : w ≤ 528
  pub fits : q * w + w ≤ length chip
  pub clean : part w q chip ≡ replicate w 255

-- page `to` is erased, and page `from` is there to be copied
pub record CopyAsked (chip : List ℕ) (w from to : ℕ) : Type 0 where
  pub page : Blank chip w to
  pub source : from * w + w ≤ length chip
