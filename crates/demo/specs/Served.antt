-- What the program has done with the bytes that it has taken: whatever comes after them, the whole output is what it has printed, and what is still to be
-- printed from here.
-- Assumes nothing.
use Rattle.std.specs.Prelude.{ℕ, ◌-◌, ◌^◌, ◌≤◌, ◌≡◌, ◌⊎◌, List, [], ◌++◌, length}
use Rattle.std.specs.Io.KnownBytes.{Appends, Consumes, IsAtEnd}
use Rattle.std.specs.declared.option.Option.{Option}
use Rattle.rules.specs.Tables.{Board}
use Rattle.demo_lines.specs.Held.{Held, Holds}
use Rattle.demo_session.specs.Session.{lines_from, turns}

-- bytes s are taken on a board b, after a line l begun: the board is b', h holds the line that is begun now, and the writer holds the text that is printed
pub record Served (known known' : Option (List ℕ)) (b b' : Board) (l s : List ℕ) (h : Held) : Type 0 where
  pub begun : List ℕ
  pub holds : Holds h begun
  pub text : List ℕ
  pub printed : Appends known known' text
  pub same : (more : List ℕ) → turns b (lines_from l (s ++ more)) ≡ text ++ turns b' (lines_from begun more)

-- all bytes are taken that the reader had, or more than any run takes
pub record Ended (left left' known known' : Option (List ℕ)) (b b' : Board) (h : Held) : Type 0 where
  pub taken : List ℕ
  pub consumed : Consumes left left' taken
  pub all : IsAtEnd left' ⊎ (2 ^ 64 - 1 ≤ length taken)
  pub served : Served known known' b b' [] taken h
