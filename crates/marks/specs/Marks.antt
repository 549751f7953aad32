-- Document 02, T-06: what the marks say, in the words of the request.
-- Assumes nothing.
use Rattle.std.specs.Prelude.{ℕ, ◌+◌, ◌/◌, ◌%◌, ◌^◌, ◌≤◌, ◌<◌, ◌≡◌, ◌↔◌, Bool, true, false, List, eqb, length}
use Rattle.std.specs.Int.Count.{ones}
use Rattle.rules.specs.declared.Params.{Params}
use Rattle.rules.specs.Parameters.{allowed, frames}
use Rattle.rules.specs.Tables.{Board, mark_index, marks_length, word_at}
use Rattle.rules.specs.Regions.{assigned, valid, valid_frames, view}
use Rattle.rules.specs.Orderly.{marks_rule}

-- "the mark of frame f stands at bit f mod 64 of word f / 64": the mark that stands in a table
abbrev pub mark_in : Params → List ℕ → ℕ → ℕ → ℕ → Bool
mark_in p marks r v f = eqb (word_at marks (mark_index p r v (f / 64)) / 2 ^ (f % 64) % 2) 1

-- "the count of ones in its words"
unfoldable pub ones_at : Params → List ℕ → ℕ → ℕ → ℕ
ones_at p marks r v =
    ones (word_at marks (mark_index p r v 0)) + ones (word_at marks (mark_index p r v 1)) + ones (word_at marks (mark_index p r v 2)) + ones (word_at marks (mark_index p r v 3))

-- the marks of virtual block v of region r
pub record MarksAt (p : Params) (b : Board) (r v : ℕ) : Type 0 where
  -- "four 64-bit words"
  pub words : (w : ℕ) → w < 4 → word_at b.marks (mark_index p r v w) < 2 ^ 64
  -- "each mark equals the validity rule"
  pub each : (f : ℕ) → f < frames p → mark_in p b.marks r v f ≡ valid p (view p b r) v f
  -- "Marks from F up are zero, and so are those of a virtual block without a physical block"
  pub above : (f : ℕ) → frames p ≤ f → f < 256 → mark_in p b.marks r v f ≡ false
  pub without : assigned (view p b r) v ≡ false → (f : ℕ) → f < 256 → mark_in p b.marks r v f ≡ false
  -- "the valid frames of a block are the count of ones in its words"
  pub counted : ones_at p b.marks r v ≡ length (valid_frames p (view p b r) v)

-- a table of the right length obeys the rule exactly when the marks of every virtual block are so
abbrev pub MarksRead : Type 0
MarksRead =
    (p : Params) (b : Board) → allowed p ≡ true → length b.marks ≡ marks_length p
    → (marks_rule p b ≡ true) ↔ ((r v : ℕ) → r < p.mu → v < p.gamma → MarksAt p b r v)
