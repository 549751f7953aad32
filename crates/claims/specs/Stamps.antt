-- T-07: what the stamps of a region's whole frames say (crate starts, specs/Timely.antt), after every run from an accepted format on. proofs/Condition2.antt has
-- the theorem.
-- Assumes nothing.
use Rattle.std.specs.Prelude.{ℕ, ◌<◌, ◌≡◌, List, ◌∷◌}
use Rattle.rules.specs.declared.Params.{Params}
use Rattle.rules.specs.declared.Reply.TheVariants.{Accepted}
use Rattle.rules.specs.Tables.{Board}
use Rattle.rules.specs.Regions.{view}
use Rattle.rules.specs.Requests.{format}
use Rattle.rules.specs.Replies.{reply_of}
use Rattle.rules.specs.Cuts.{Step, plain}
use Rattle.starts.specs.Timely.{Timely}
use Rattle.claims.specs.Runs.{Belief, Known, belief_after, board_after, stands}

-- they say so in every region after any run from an accepted format on, wherever the tables stand
abbrev pub StampsOverRuns : Type 0
StampsOverRuns =
    (p : Params) (b : Board) → reply_of p b format ≡ Accepted → (ss : List Step) (x : Belief) (k : Known) → belief_after p b (plain format ∷ ss) x ≡ stands k
    → (r : ℕ) → r < p.mu → Timely p (view p (board_after p b (plain format ∷ ss)) r)
