-- The board of a cut: chip and wear as the operations left them, and the tables that are lost.
-- Assumes nothing.
use mathlib.Core.Path.{◌≡◌}
use mathlib.Core.List.{List}
use Prim.Native.Nat.{ℕ, ◌*◌}
use lib.ListN.{length}
use Rattle.rules.specs.declared.Params.{Params}
use Rattle.rules.specs.Tables.{Board, board_of, marks_length}
use Rattle.rules.specs.Traces.{Op, replay_chip, replay_wear}
use Rattle.rules.specs.Cuts.{cut_board}
use Rattle.chip_lost.specs.Lost.{Lost}

-- the lengths of the tables that a cut loses
pub record Lengths (p : Params) (ct bt fst bst marks stamps : List ℕ) : Type 0 where
  pub ct_length : length ct ≡ p.C
  pub bt_length : length bt ≡ p.mu * p.gamma
  pub fst_length : length fst ≡ p.mu
  pub bst_length : length bst ≡ p.N
  pub marks_length : length marks ≡ marks_length p
  pub stamps_length : length stamps ≡ p.mu

pub lost_board : (p : Params) (b : Board) (ops : List Op) (chip wear ct bt fst bst marks stamps ct' bt' fst' bst' marks' stamps' : List ℕ)
    → Lengths p ct bt fst bst marks stamps → Lost ct bt fst bst marks stamps ct' bt' fst' bst' marks' stamps'
    → chip ≡ replay_chip p b.chip ops → wear ≡ replay_wear b.wear ops → board_of chip ct' bt' fst' bst' wear marks' stamps' ≡ cut_board p b ops
unfolding cut_board
lost_board p b ops chip wear ct bt fst bst marks stamps ct' bt' fst' bst' marks' stamps' l x e w =
    rw (
      e,
      w,
      x.ct_is,
      x.bt_is,
      x.fst_is,
      x.bst_is,
      x.marks_is,
      x.stamps_is,
      l.ct_length,
      l.bt_length,
      l.fst_length,
      l.bst_length,
      l.marks_length,
      l.stamps_length,
    )
