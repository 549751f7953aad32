-- What a start that is not refused has found: the parameters, the lent lengths, and a chip that can be started. Nothing is asked of what the lent
-- tables hold.
-- Assumes nothing.
use Rattle.std.specs.Prelude.{◌≡◌, true}
use Rattle.rules.specs.declared.Params.{Params}
use Rattle.rules.specs.Parameters.{allowed}
use Rattle.rules.specs.Tables.{Board}
use Rattle.rules.specs.Start.{startable}
use Rattle.rules.specs.Replies.{lengths_fit}

pub record StartAdmitted (p : Params) (b : Board) : Type 0 where
  pub fine : allowed p ≡ true
  pub lengths : lengths_fit p b ≡ true
  pub starts : startable p b.chip ≡ true
