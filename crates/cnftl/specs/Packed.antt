-- What a call through the C interface gives.
-- Assumes nothing.
use Rattle.std.specs.Prelude.{◌≡◌, List, ℕ}
use Rattle.rules.specs.Tables.{Board}
use Rattle.rules.specs.Calls.{Outcome}
use Rattle.c_answer.specs.Packed.{packed}

-- the packed answer, the lent data and the board of the outcome
pub record Given (o : Outcome) (word : ℕ) (bytes : List ℕ) (b : Board) : Type 0 where
  pub answer : word ≡ packed o.answer
  pub bytes_are : bytes ≡ o.bytes
  pub board : b ≡ o.board
