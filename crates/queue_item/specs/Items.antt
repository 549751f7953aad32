-- What an item does, and that what the head found stays true between two.
-- Assumes nothing.
use Rattle.std.specs.Prelude.{◌≡◌, Bool, List, ℕ}
use Rattle.rules.specs.declared.Params.{Params}
use Rattle.rules.specs.declared.Answer.{Answer}
use Rattle.rules.specs.declared.Item.{Item}
use Rattle.rules.specs.Tables.{Board}
use Rattle.queue_turns.specs.Served.{item_outcome}
use Rattle.queue_turns.specs.Limited.{item_step, left_after}
use Rattle.queue_head.specs.Heads.{Ready}

-- one item is answered as the single write that it asks for, leaves what that leaves, and the flag stays true of it
pub record ItemIs (p : Params) (ordered : Bool) (b : Board) (bytes : List ℕ) (it : Item) (a : Answer) (b' : Board) : Type 0 where
  pub answered : a ≡ (item_outcome p bytes b it).answer
  pub left : b' ≡ (item_outcome p bytes b it).board
  pub ready : Ready p ordered b'

-- with k left of a budget it is the single write with that budget; what is left then; and the flag stays true unless that is nothing
pub record ItemLimited (p : Params) (ordered : Bool) (b : Board) (bytes : List ℕ) (k : ℕ) (it : Item) (a : Answer) (rest : ℕ) (b' : Board) : Type 0 where
  pub answered : a ≡ (item_step p bytes b k it).answer
  pub board : b' ≡ (item_step p bytes b k it).board
  pub left : rest ≡ left_after p bytes b k it
  pub ready : (rest ≡ 0 → ⊥) → Ready p ordered b'
