-- Eight words of 64 bits side by side.
-- Assumes nothing.
use Rattle.std.specs.Prelude.{Bool, ◌&&◌, ℕ, eqb}
use Rattle.chip_erased.specs.declared.Eight.{Eight}

-- every bit of a word
unfoldable pub ones : ℕ → Bool
ones x = eqb x 18446744073709551615

-- every bit of each
unfoldable pub full : Eight → Bool
full w = ones w.a && ones w.b && ones w.c && ones w.d && ones w.e && ones w.f && ones w.g && ones w.h
