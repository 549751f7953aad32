-- What is kept of a line while its bytes come one by one: at most 64 of them, for no line of the grammar is longer.
-- Assumes nothing.
use Rattle.std.specs.Prelude.{ℕ, ◌<◌, ◌≡◌, List, length, Option, MatchOption}

-- the bytes that came, and those of the unused room, of which no clause says anything
pub record Begun : Type 0 where
  pub items : List ℕ
  pub spare : List ℕ

-- the kept bytes, or none
abbrev pub Held : Type 0
Held = Option Begun

-- h holds the line l: its bytes, or none where it has more than 64
abbrev pub Holds : Held → List ℕ → Type 0
Holds h l = MatchOption h (64 < length l) (λ v. v.items ≡ l)
