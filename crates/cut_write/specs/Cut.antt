-- What a cut write asks.
-- Assumes nothing.
use Rattle.std.specs.Prelude.{◌≡◌, List, ℕ, ◌+◌, ◌*◌, ◌≤◌, ◌<◌, length, take}
use Rattle.rules.specs.declared.Params.{Params}
use Rattle.rules.specs.Tables.{Board, bt_at}
use Rattle.rules.specs.Traces.{Op, replay_chip, replay_wear}
use Rattle.rules.specs.Write.{Plan, continues, opens, reclaims, room_ops}
use Rattle.rules.specs.Requests.{Request, request_region}
use Rattle.chip_marks.specs.Asked.{WordsAsked}
use Rattle.write_reclaim.specs.Moves.{Between}
use Rattle.write_work.specs.Asked.{PlanMade}

-- virtual block v of region r has a block, whose marks and wear can be looked up
pub record CountReady (p : Params) (bt wear marks : List ℕ) (r v : ℕ) : Type 0 where
  pub bt_length : length bt ≡ p.mu * p.gamma
  pub words : WordsAsked p marks r v
  pub block : bt_at p bt r v < length wear

-- by the plan
abbrev pub CountAsked : Params → List ℕ → List ℕ → List ℕ → ℕ → Plan → Type 0
CountAsked p bt wear marks r (continues v f) = Unit {0}
CountAsked p bt wear marks r (opens v) = Unit {0}
CountAsked p bt wear marks r (reclaims v) = CountReady p bt wear marks r v

-- block n is there for virtual block v of region r, whose frames can be copied to it
pub record CopiesReady (p : Params) (chip bt wear marks : List ℕ) (r v n : ℕ) : Type 0 where
  pub bt_length : length bt ≡ p.mu * p.gamma
  pub wear_length : length wear ≡ p.N
  pub words : WordsAsked p marks r v
  pub between : Between p chip (bt_at p bt r v) n

-- by the plan
abbrev pub CopiesAsked : Params → List ℕ → List ℕ → List ℕ → List ℕ → ℕ → Plan → ℕ → Type 0
CopiesAsked p chip bt wear marks r (continues v f) n = Unit {0}
CopiesAsked p chip bt wear marks r (opens v) n = Unit {0}
CopiesAsked p chip bt wear marks r (reclaims v) n = CopiesReady p chip bt wear marks r v n

-- the first k of these operations, on chip and wear
pub record FirstMade (p : Params) (chip wear : List ℕ) (ops : List Op) (k : ℕ) (chip' wear' : List ℕ) : Type 0 where
  pub chip_is : chip' ≡ replay_chip p chip (take k ops)
  pub wear_is : wear' ≡ replay_wear wear (take k ops)

-- a write that is accepted, its plan and the block that this writes, how many operations make its room, and how many of all are to be made
pub record CutAsked (p : Params) (b : Board) (q : Request) (r : ℕ) (pl : Plan) (n room k : ℕ) : Type 0 where
  pub made : PlanMade p b q r pl n
  pub ops : room ≡ length (room_ops p b (request_region p q) pl)
  pub few : k ≤ room + p.alpha
