-- T-07: the boards that runs leave. What an accepted format, write and release keep true of a board beside its order, so that a start on its chip alone loses nothing.
-- Assumes nothing.
use Rattle.std.specs.Prelude.{ℕ, ◌<◌, ◌≡◌, true}
use Rattle.rules.specs.declared.Params.{Params}
use Rattle.rules.specs.Parameters.{allowed}
use Rattle.rules.specs.Numbers.{region_of}
use Rattle.rules.specs.Tables.{Board, bst_at, none}
use Rattle.rules.specs.Regions.{view}
use Rattle.rules.specs.Orderly.{orderly}
use Rattle.rules.specs.Format.{bad}
use Rattle.rules.specs.Replies.{lengths_fit}
use Rattle.starts.specs.Timely.{Timely, WholeAt}

-- an orderly board, on which the stamps of whole frames tell which is the latest, and every reserved block is bad by T-02's rule
pub record Stands (p : Params) (b : Board) : Type 0 where
  pub fine : allowed p ≡ true
  pub lengths : lengths_fit p b ≡ true
  pub order : orderly p b ≡ true
  pub timely : (r : ℕ) → r < p.mu → Timely p (view p b r)
  pub marked : (n : ℕ) → n < p.N → bst_at b.bst n ≡ 2 → bad p b.chip n ≡ true

-- where cluster c has no CT entry it has no whole frame left: so it is of one that was never written since the format, and not of one that was released
abbrev pub Clear : Params → Board → ℕ → Type 0
Clear p b c = (view p b (region_of p c)).seg_of c ≡ none → (u g : ℕ) → WholeAt p (view p b (region_of p c)) c u g → ⊥
