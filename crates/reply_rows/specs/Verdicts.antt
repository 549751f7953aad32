-- How the reply of document 01's rows is returned.
-- Assumes nothing.
use Rattle.std.specs.Prelude.{◌≡◌, ◌≢◌, Result, MatchResult}
use Rattle.rules.specs.declared.Reply.{Reply}
use Rattle.rules.specs.declared.Reply.TheVariants.{Accepted}

-- a call is let through exactly if no row refuses it, and else refused with that row's reply
abbrev pub Verdict : Result (Unit {0}) Reply → Reply → Type 0
Verdict r row = MatchResult r (λ _. row ≡ Accepted) (λ e. (row ≡ e) × (row ≢ Accepted))
