-- One frame more of copies that are cut short: what it asks, and what it leaves.
-- Assumes nothing.
use Rattle.std.specs.Prelude.{◌≡◌, Bool, true, cond, List, ℕ, ◌-◌, ◌*◌, ◌≤◌, ◌<◌, min}
use Rattle.rules.specs.declared.Params.{Params}
use Rattle.rules.specs.Parameters.{allowed, frames}
use Rattle.rules.specs.Pages.{block, frame}
use Rattle.rules.specs.Traces.{frame_ops, replay_chip}
use Rattle.write_reclaim.specs.Moves.{CopyAsked}

-- of k pages, those of j frames are made; while pages are left, frame f of block o can go to frame j of block n
pub record TurnAsked (p : Params) (chip : List ℕ) (o n f j k : ℕ) : Type 0 where
  pub fine : allowed p ≡ true
  pub frame : f < frames p
  pub few : j ≤ f
  pub copy : j * p.alpha < k → CopyAsked p chip o n f j

-- where the test passed, as many of its pages are copied as are left; x is how many frames that passed
pub record TurnMade (p : Params) (chip : List ℕ) (o n f j k : ℕ) (t : Bool) (chip' : List ℕ) (x : ℕ) : Type 0 where
  pub chip_is : chip' ≡ cond t (replay_chip p chip (frame_ops p n j (frame p (block p chip o) f) (min (k - j * p.alpha) p.alpha))) chip
  pub count : x ≡ cond t 1 0
