-- What the forecast of a write, and the place of a cluster, ask of the lent tables.
-- Assumes nothing.
use Rattle.std.specs.Prelude.{◌≡◌, true, List, [], ℕ, ◌*◌, ◌<◌, length}
use Rattle.rules.specs.declared.Params.{Params}
use Rattle.rules.specs.Parameters.{allowed}
use Rattle.rules.specs.Regions.{view_of}
use Rattle.rules.specs.Tables.{board_of}
use Rattle.rules.specs.Write.{Plan, continues, opens, plan_of, plan_vblock, reclaims}
use Rattle.rules.specs.Marks.{marks_of}
use Rattle.chip_marks.specs.Asked.{WordsAsked}
use Rattle.write_choose.specs.Search.{Pool}
use Rattle.write_plan.specs.Plans.{PlanAsked}

-- the plan can be made, and its block looked for; and with some CT the marks are the board's, and the plan's virtual block is one of the region's
pub record ForecastAsked (p : Params) (chip bt fst bst wear marks : List ℕ) (r : ℕ) : Type 0 where
  pub plan : PlanAsked p chip bt fst r
  pub pool : Pool p bst wear
  pub ct : List ℕ
  pub right : marks ≡ marks_of p (board_of chip ct bt fst [] [] [] [])
  pub low : plan_vblock (plan_of p (view_of p chip ct bt fst r)) < p.gamma

-- the marks of the virtual block that a plan reclaims, by the plan
abbrev pub VictimAsked : Params → List ℕ → ℕ → Plan → Type 0
VictimAsked p marks r (continues v f) = Unit {0}
VictimAsked p marks r (opens v) = Unit {0}
VictimAsked p marks r (reclaims v) = WordsAsked p marks r v

-- cluster c has an entry in CT, and virtual block v of its region one in BT
pub record PlaceAsked (p : Params) (ct bt : List ℕ) (c v : ℕ) : Type 0 where
  pub fine : allowed p ≡ true
  pub ct_length : length ct ≡ p.C
  pub cluster : c < p.C
  pub bt_length : length bt ≡ p.mu * p.gamma
  pub low : v < p.gamma
