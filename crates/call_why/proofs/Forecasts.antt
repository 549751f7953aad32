-- What the forecast asks for its plan is there; and a virtual block that is reclaimed has as many marks as valid frames.
-- Assumes nothing.
use mathlib.Core.Path.{◌≡◌, ap, ◌∙◌}
use mathlib.Core.Bool.{true}
use mathlib.Core.List.{List, []}
use Prim.Native.Nat.{ℕ, ◌<◌}
use lib.ListN.{length}
use Rattle.lists.specs.Below.{count_below}
use Rattle.rules.specs.declared.Params.{Params}
use Rattle.rules.specs.Parameters.{allowed}
use Rattle.rules.specs.Regions.{valid_frames, view, view_of}
use Rattle.rules.specs.Tables.{Board, board_of, marks_length}
use Rattle.rules.specs.Write.{Plan, continues, opens, plan_of, plan_vblock, reclaims}
use Rattle.rules.specs.Marks.{Marks, marks_in, marks_of, marks_on, table_of}
use Rattle.marks.proofs.Counted.{marks_counted}
use Rattle.rules.proofs.MarkFacts.{table_length}
use Rattle.write_room.specs.Rooms.{BlockAsked}
use Rattle.call_why.specs.Asked.{ForecastAsked, VictimAsked}

module _ (p : Params) (chip bt fst bst wear marks : List ℕ) (r : ℕ) (a : ForecastAsked p chip bt fst bst wear marks r) where
  pub marks_long_lem : length marks ≡ marks_length p
  marks_long_lem = ap length a.right ∙ table_length p (marks_on p (board_of chip a.ct bt fst [] [] [] []))

  -- the plan that was found, on the board with any CT that has these marks
  module _ (pl : Plan) (found : (ct : List ℕ) → marks ≡ marks_of p (board_of chip ct bt fst [] [] [] []) → pl ≡ plan_of p (view_of p chip ct bt fst r)) where
    low : plan_vblock pl < p.gamma
    low = rw (found a.ct a.right) a.low

    pub block_asked : BlockAsked p bt bst wear r pl
    block_asked = record { pool = a.pool; bt_length = a.plan.bt_length; region = a.plan.low; low = low }

    pub victim_asked : VictimAsked p marks r pl
    unfolding plan_vblock
    victim_asked = go pl low
      where
        go : (l : Plan) → plan_vblock l < p.gamma → VictimAsked p marks r l
        go (continues v f) h = tt
        go (opens v) h = tt
        go (reclaims v) h = record { fine = a.plan.fine; long = marks_long_lem; region = a.plan.low; vblock = h }

pub counted : (p : Params) → allowed p ≡ true → (marks : List ℕ) (b : Board) → marks ≡ marks_of p b → (r v n : ℕ) → ((m : Marks) → marks ≡ table_of p m → n ≡ count_below 256 (m r v))
    → n ≡ length (valid_frames p (view p b r) v)
unfolding marks_in
counted p fine marks b right r v n h = h (marks_on p b) right ∙ marks_counted p fine (view p b r) v
