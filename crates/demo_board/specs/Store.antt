-- The board that a lent chip and lent tables are.
-- Assumes nothing.
use Rattle.std.specs.Prelude.{◌≡◌}
use Rattle.rules.specs.Tables.{Board, board_of}
use Rattle.demo_board.specs.declared.Store.{Store}

abbrev pub store_board : Store → Board
store_board b = board_of b.chip.now b.ct.now b.bt.now b.fst.now b.bst.now b.wear.now b.marks.now b.stamps.now

-- the slices are those that were lent, so that whoever lent them finds in them what the board is in the end
abbrev pub SameSlices : Store → Store → Type 0
SameSlices a b =
    (b.chip.ghost_name ≡ a.chip.ghost_name) × (b.ct.ghost_name ≡ a.ct.ghost_name) × (b.bt.ghost_name ≡ a.bt.ghost_name) × (b.fst.ghost_name ≡ a.fst.ghost_name)
    × (b.bst.ghost_name ≡ a.bst.ghost_name) × (b.wear.ghost_name ≡ a.wear.ghost_name) × (b.marks.ghost_name ≡ a.marks.ghost_name) × (b.stamps.ghost_name ≡ a.stamps.ghost_name)
