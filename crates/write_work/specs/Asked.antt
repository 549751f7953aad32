-- What a write has once its plan is made.
-- Assumes nothing.
use Rattle.std.specs.Prelude.{◌≡◌, ℕ}
use Rattle.rules.specs.declared.Params.{Params}
use Rattle.rules.specs.declared.Reply.TheVariants.{Accepted}
use Rattle.rules.specs.Tables.{Board}
use Rattle.rules.specs.Regions.{view}
use Rattle.rules.specs.Write.{Plan, plan_block, plan_of}
use Rattle.rules.specs.Requests.{Request, request_region, write}
use Rattle.rules.specs.Replies.{reply_of}

-- it is accepted, r is its region, pl its plan, and n the block that the plan writes
pub record PlanMade (p : Params) (b : Board) (q : Request) (r : ℕ) (pl : Plan) (n : ℕ) : Type 0 where
  pub accepted : reply_of p b (write q) ≡ Accepted
  pub region : r ≡ request_region p q
  pub plan : pl ≡ plan_of p (view p b (request_region p q))
  pub block : n ≡ plan_block p b (request_region p q) pl
