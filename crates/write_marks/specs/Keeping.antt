-- The marks of a write, as the code keeps them, and its answer.
-- Assumes nothing.
use Rattle.std.specs.Prelude.{◌≡◌, Bool, true, false, cond, List, ℕ, ◌+◌, ◌*◌, ◌<◌, eqb, length}
use Rattle.rules.specs.declared.Params.{Params}
use Rattle.rules.specs.declared.Reply.TheVariants.{Accepted}
use Rattle.rules.specs.declared.Answer.{Answer}
use Rattle.rules.specs.Parameters.{allowed}
use Rattle.rules.specs.Marks.{Marks}
use Rattle.rules.specs.Tables.{marks_length}
use Rattle.marks.specs.Kept.{first_marks, put_mark}

-- a frame that was found, where there is one, has a place in the table
pub record UnmarkAsked (p : Params) (marks : List ℕ) (r : ℕ) (kept : Bool) (v f : ℕ) : Type 0 where
  pub fine : allowed p ≡ true
  pub long : length marks ≡ marks_length p
  pub region : r < p.mu
  pub vblock : kept ≡ true → v < p.gamma
  pub frame : kept ≡ true → f < 256

-- with a reclaim's copies in the first frames of v; without the frame g of u, where the cluster stood; with the new frame f of v
abbrev pub kept_marks : Marks → ℕ → ℕ → ℕ → ℕ → ℕ → Bool → ℕ → ℕ → Marks
kept_marks m r v f copied erases kept u g =
    let roomed = cond (eqb erases 0) m (first_marks m r v copied) in
    put_mark (cond kept (put_mark roomed r u g false) roomed) r v f true

-- "A write reports α × (frames copied + 1) pages programmed"
abbrev pub accepted_answer : Params → ℕ → ℕ → ℕ → Answer
accepted_answer p copied erases looks = record { reply = Accepted; programs = p.alpha * (copied + 1); erases = erases; looks = looks }
