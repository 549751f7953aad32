-- What a plan asks to make room, and what it leaves.
-- Assumes nothing.
use Rattle.std.specs.Prelude.{◌≡◌, true, List, ℕ, ◌+◌, ◌*◌, ◌<◌, length, set}
use Rattle.rules.specs.declared.Params.{Params}
use Rattle.rules.specs.Parameters.{allowed}
use Rattle.rules.specs.Tables.{Board, bt_at}
use Rattle.rules.specs.Regions.{view}
use Rattle.rules.specs.Traces.{erased_state, erases_in, replay_chip, replay_wear}
use Rattle.rules.specs.Write.{Plan, continues, opens, reclaims, plan_vblock, plan_frame, copies, free_block, plan_block, victim_ops, room_ops, follow_ct, plan_bst}
use Rattle.chip_marks.specs.Asked.{WordsAsked}
use Rattle.write_choose.specs.Search.{Pool}
use Rattle.write_reclaim.specs.Moves.{FromTo, Reclaimed}

-- the tables in which the block of a plan is looked for, and its virtual block is one of region r's
pub record BlockAsked (p : Params) (bt bst wear : List ℕ) (r : ℕ) (pl : Plan) : Type 0 where
  pub pool : Pool p bst wear
  pub bt_length : length bt ≡ p.mu * p.gamma
  pub region : r < p.mu
  pub low : plan_vblock pl < p.gamma

-- block n is there for virtual block v of region r
pub record OpenAsked (p : Params) (bt bst : List ℕ) (r v n : ℕ) : Type 0 where
  pub fine : allowed p ≡ true
  pub bt_length : length bt ≡ p.mu * p.gamma
  pub bst_length : length bst ≡ p.N
  pub region : r < p.mu
  pub low : v < p.gamma
  pub in_chip : n < p.N

-- BT names it, and it is used
pub record Opened (p : Params) (bt bst : List ℕ) (r v n : ℕ) (bt' bst' : List ℕ) : Type 0 where
  pub bt_is : bt' ≡ set bt (r * p.gamma + v) n
  pub bst_is : bst' ≡ set bst n 1

-- and virtual block v has another block, whose frames can be copied there
pub record ReclaimReady (p : Params) (chip ct bt bst wear marks : List ℕ) (r v n : ℕ) : Type 0 where
  pub taking : OpenAsked p bt bst r v n
  pub wear_length : length wear ≡ p.N
  pub words : WordsAsked p marks r v
  pub blocks : FromTo p chip ct (bt_at p bt r v) n v

-- the frames xs, which are its marked ones, are copied, it is erased and free, or reserved where it is worn, and BT names the other, which is used
pub record BlockReclaimed (p : Params) (chip ct bt bst wear : List ℕ) (r v n : ℕ) (xs : List (List ℕ)) (chip' ct' bt' bst' wear' : List ℕ) (k : ℕ) : Type 0 where
  pub moved : Reclaimed p chip ct wear (bt_at p bt r v) n v xs chip' ct' wear' k
  pub bt_is : bt' ≡ set bt (r * p.gamma + v) n
  pub bst_is : bst' ≡ set (set bst n 1) (bt_at p bt r v) (erased_state p wear (bt_at p bt r v))

-- by the plan, and block n is the one that it writes
abbrev pub RoomAsked : Params → List ℕ → List ℕ → List ℕ → List ℕ → List ℕ → List ℕ → ℕ → Plan → ℕ → Type 0
RoomAsked p chip ct bt bst wear marks r (continues v f) n = Unit {0}
RoomAsked p chip ct bt bst wear marks r (opens v) n = (n ≡ free_block p bst wear) × OpenAsked p bt bst r v n
RoomAsked p chip ct bt bst wear marks r (reclaims v) n = (n ≡ free_block p bst wear) × ReclaimReady p chip ct bt bst wear marks r v n

-- the plan's room: the rules' operations are made, and the tables follow
pub record RoomMade (p : Params) (b : Board) (r : ℕ) (pl : Plan) (v f copied erased : ℕ) (chip' ct' bt' bst' wear' : List ℕ) : Type 0 where
  pub vblock : v ≡ plan_vblock pl
  pub frame : f ≡ plan_frame p (view p b r) pl
  pub count : copied ≡ length (copies p (view p b r) pl)
  pub erases : erased ≡ erases_in (victim_ops p b r pl)
  pub chip_is : chip' ≡ replay_chip p b.chip (room_ops p b r pl)
  pub ct_is : ct' ≡ follow_ct p (plan_vblock pl) 0 (copies p (view p b r) pl) b.ct
  pub bt_is : bt' ≡ set b.bt (r * p.gamma + plan_vblock pl) (plan_block p b r pl)
  pub bst_is : bst' ≡ plan_bst p b r pl
  pub wear_is : wear' ≡ replay_wear b.wear (room_ops p b r pl)
