-- How a contract names the lent chip and tables: as the call finds them, and as it leaves them. Each lent slice has a value at entry and one at exit.
-- Assumes nothing.
use Rattle.std.specs.Prelude.{ℕ, List}
use Rattle.std.specs.Borrow.{Bor, MutBor}
use denote.Triple.Both.{Both}
use Rattle.rules.specs.declared.Seen.{Seen}
use Rattle.rules.specs.Tables.{Board, board_of}

-- a lent slice, before and after
abbrev pub Lent : Type 0
Lent = Both (MutBor (List ℕ)) (MutBor (List ℕ))

abbrev pub entry_board : (chip ct bt fst bst wear marks stamps : Lent) → Board
entry_board chip ct bt fst bst wear marks stamps =
    board_of chip.entry.now ct.entry.now bt.entry.now fst.entry.now bst.entry.now wear.entry.now marks.entry.now stamps.entry.now

abbrev pub exit_board : (chip ct bt fst bst wear marks stamps : Lent) → Board
exit_board chip ct bt fst bst wear marks stamps =
    board_of chip.exit.now ct.exit.now bt.exit.now fst.exit.now bst.exit.now wear.exit.now marks.exit.now stamps.exit.now

-- a slice that is lent to be read, and the board where all of it is lent so: slice by slice, or as one
abbrev pub SeenSlice : Type 0
SeenSlice = Both (Bor (List ℕ)) (Bor (List ℕ))

abbrev pub seen_board : (chip ct bt fst bst wear marks stamps : SeenSlice) → Board
seen_board chip ct bt fst bst wear marks stamps =
    board_of chip.entry.now ct.entry.now bt.entry.now fst.entry.now bst.entry.now wear.entry.now marks.entry.now stamps.entry.now

abbrev pub board_seen : Seen → Board
board_seen b = board_of b.chip.now b.ct.now b.bt.now b.fst.now b.bst.now b.wear.now b.marks.now b.stamps.now
