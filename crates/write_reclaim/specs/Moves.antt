-- The copies of a reclaim: what they ask, and what they leave.
-- Assumes nothing.
use Rattle.std.specs.Prelude.{◌≡◌, Bool, true, cond, List, ◌++◌, map, ℕ, ◌*◌, ◌<◌, length, set}
use Rattle.lists.specs.Below.{keep_below}
use Rattle.rules.specs.declared.Params.{Params}
use Rattle.rules.specs.Parameters.{allowed, frames, block_bytes}
use Rattle.rules.specs.Numbers.{segment_of}
use Rattle.rules.specs.Pages.{block, frame, held, erased}
use Rattle.rules.specs.Traces.{erase, erase_ops, frame_ops, frames_ops, on_wear, replay_chip}
use Rattle.rules.specs.Write.{follow_ct}
use Rattle.chip_marks.specs.Asked.{WordsAsked}

-- a whole chip
pub record Whole (p : Params) (chip : List ℕ) : Type 0 where
  pub fine : allowed p ≡ true
  pub size : length chip ≡ p.N * block_bytes p

-- frame f of block n lies on it
pub record OnChip (p : Params) (chip : List ℕ) (n f : ℕ) : Type 0 where
  pub whole : Whole p chip
  pub block : n < p.N
  pub frame : f < frames p

-- frame f of block o is to go to frame k of another block n, which is erased
pub record CopyAsked (p : Params) (chip : List ℕ) (o n f k : ℕ) : Type 0 where
  pub from : OnChip p chip o f
  pub to : OnChip p chip n k
  pub apart : o ≡ n → ⊥
  pub clean : erased (frame p (block p chip n) k) ≡ true

-- and virtual block v is to have it
pub record MoveAsked (p : Params) (chip ct : List ℕ) (o n v f k : ℕ) : Type 0 where
  pub copy : CopyAsked p chip o n f k
  pub low : v < p.gamma
  pub cluster : held p (frame p (block p chip o) f) < length ct

pub record Moved (p : Params) (chip ct : List ℕ) (o n v f k : ℕ) (chip' ct' : List ℕ) : Type 0 where
  pub chip_is : chip' ≡ replay_chip p chip (frame_ops p n k (frame p (block p chip o) f) p.alpha)
  pub ct_is : ct' ≡ set ct (held p (frame p (block p chip o) f)) (segment_of p v k)

-- the same where the test passed, and nothing where it did not; x is how many frames that copied
pub record MovedIf (p : Params) (chip ct : List ℕ) (o n v f k : ℕ) (t : Bool) (chip' ct' : List ℕ) (x : ℕ) : Type 0 where
  pub chip_is : chip' ≡ cond t (replay_chip p chip (frame_ops p n k (frame p (block p chip o) f) p.alpha)) chip
  pub ct_is : ct' ≡ cond t (set ct (held p (frame p (block p chip o) f)) (segment_of p v k)) ct
  pub count : x ≡ cond t 1 0

-- block n is another than block o, and erased
pub record Between (p : Params) (chip : List ℕ) (o n : ℕ) : Type 0 where
  pub whole : Whole p chip
  pub from : o < p.N
  pub to : n < p.N
  pub apart : o ≡ n → ⊥
  pub clean : (k : ℕ) → k < frames p → erased (frame p (block p chip n) k) ≡ true

-- and block o, which virtual block v has, is full
pub record FromTo (p : Params) (chip ct : List ℕ) (o n v : ℕ) : Type 0 where
  pub between : Between p chip o n
  pub low : v < p.gamma
  pub good : (f : ℕ) → f < frames p → held p (frame p (block p chip o) f) < length ct

-- the frames of a block that have a mark
abbrev pub marked_frames : Params → List ℕ → (ℕ → Bool) → List (List ℕ)
marked_frames p blk m = map (frame p blk) (keep_below (frames p) m)

-- the frames xs are copied to block n in order from frame 0, and CT follows each
pub record Copied (p : Params) (chip ct : List ℕ) (n v : ℕ) (xs : List (List ℕ)) (chip' ct' : List ℕ) (k : ℕ) : Type 0 where
  pub chip_is : chip' ≡ replay_chip p chip (frames_ops p n 0 xs)
  pub ct_is : ct' ≡ follow_ct p v 0 xs ct
  pub count : k ≡ length xs

pub record ReclaimAsked (p : Params) (chip ct wear marks : List ℕ) (o n r v : ℕ) : Type 0 where
  pub blocks : FromTo p chip ct o n v
  pub wear_length : length wear ≡ p.N
  pub words : WordsAsked p marks r v

-- the same, and then block o is erased, which counts, and marked where that wears it out
pub record Reclaimed (p : Params) (chip ct wear : List ℕ) (o n v : ℕ) (xs : List (List ℕ)) (chip' ct' wear' : List ℕ) (k : ℕ) : Type 0 where
  pub chip_is : chip' ≡ replay_chip p chip (frames_ops p n 0 xs ++ erase_ops p wear o)
  pub ct_is : ct' ≡ follow_ct p v 0 xs ct
  pub wear_is : wear' ≡ on_wear wear (erase o)
  pub count : k ≡ length xs
