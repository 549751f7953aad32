-- What the calls on the table of marks ask.
-- Assumes nothing.
use Rattle.std.specs.Prelude.{◌≡◌, true, List, ◌<◌, ℕ, length}
use Rattle.rules.specs.declared.Params.{Params}
use Rattle.rules.specs.Parameters.{allowed}
use Rattle.rules.specs.Tables.{marks_length}

-- a virtual block of a region, in a table as long as it has to be
pub record WordsAsked (p : Params) (marks : List ℕ) (r v : ℕ) : Type 0 where
  pub fine : allowed p ≡ true
  pub long : length marks ≡ marks_length p
  pub region : r < p.mu
  pub vblock : v < p.gamma

-- a frame of it, whose mark has a place
pub record MarkAsked (p : Params) (marks : List ℕ) (r v f : ℕ) : Type 0 where
  pub words : WordsAsked p marks r v
  pub frame : f < 256

-- one of its four words
pub record WordAsked (p : Params) (r v w : ℕ) : Type 0 where
  pub fine : allowed p ≡ true
  pub region : r < p.mu
  pub vblock : v < p.gamma
  pub word : w < 4
