-- What the format and a line make of a board, and print.
-- Assumes nothing.
use Rattle.std.specs.Prelude.{◌≡◌, ℕ, List}
use Rattle.cases.specs.BoardT.{board_t}
use Rattle.rules.specs.Requests.{format}
use Rattle.rules.specs.Calls.{outcome_of}
use Rattle.rules.specs.Tables.{Board}
use Rattle.demo_lines.specs.declared.Line.{Line}
use Rattle.demo_print.specs.Output.{format_line}
use Rattle.demo_session.specs.Session.{turn}

-- the format: the board is the one that it leaves
abbrev pub Started : Board → Board → Type 0
Started b b' = b' ≡ (outcome_of board_t b format).board

-- a line: the board is the one that the line's turn leaves
abbrev pub Turned : Line → Board → Board → Type 0
Turned line b b' = b' ≡ (turn b line).board

-- and what is printed of each
abbrev pub started_text : Board → List ℕ
started_text b = format_line (outcome_of board_t b format).answer

abbrev pub turned_text : Board → Line → List ℕ
turned_text b line = (turn b line).text
