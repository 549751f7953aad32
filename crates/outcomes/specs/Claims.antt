-- What a call is claimed to do: its whole outcome is the one that the rules give.
-- Assumes nothing.
use Rattle.std.specs.Prelude.{List, ℕ}
use Rattle.rules.specs.declared.Answer.{Answer}
use Rattle.rules.specs.Tables.{Board}
use Rattle.rules.specs.Calls.{Outcome}

-- the answer that a call gave, the lent data, the answer list and the board as it left them
abbrev pub outcome : Answer → List ℕ → List Answer → Board → Outcome
outcome a bytes answers b = record { answer = a; bytes = bytes; answers = answers; board = b }
