-- The marks of the frames that are gone over so far, and what a step asks.
-- Assumes nothing.
use Rattle.std.specs.Prelude.{◌≡◌, ◌&&◌, ◌||◌, List, [], ℕ, ◌+◌, ◌*◌, ◌<◌, eqb, ltb, length}
use Rattle.rules.specs.declared.Params.{Params}
use Rattle.rules.specs.Regions.{View, view_of}
use Rattle.rules.specs.Marks.{Marks, marked, table_of}
use Rattle.start_found.specs.Found.{Found}

-- of the virtual blocks before entry i of BT all frames, and of that one the first k
unfoldable pub marks_to : Params → (ℕ → View) → ℕ → ℕ → Marks
marks_to p views i k r v f = (ltb (r * p.gamma + v) i || (eqb (r * p.gamma + v) i && ltb f k)) && marked p (views r) v f

-- what the marks of entry i of BT ask; no frame is valid by FST
pub record EntryAsked (p : Params) (chip ct bt marks : List ℕ) (i : ℕ) : Type 0 where
  pub found : Found p chip bt
  pub ct_length : length ct ≡ p.C
  pub low : i < p.mu * p.gamma
  pub so : marks ≡ table_of p (marks_to p (view_of p chip ct bt []) i 0)
