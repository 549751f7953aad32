-- Document 02, T-03: "a call that releases one cluster".
-- Assumes nothing.
use Rattle.std.specs.Prelude.{ℕ, [], set}
use Rattle.rules.specs.declared.Params.{Params}
use Rattle.rules.specs.Tables.{Board, none}
use Rattle.rules.specs.Traces.{finish}

-- "its CT entry becomes none .. Where it is none already, nothing changes"
unfoldable pub released : Params → Board → ℕ → Board
released p b c = finish p b [] (record { ct = set b.ct c none; bt = b.bt; fst = b.fst; bst = b.bst; stamps = b.stamps })
