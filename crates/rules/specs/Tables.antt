-- Document 01, "Numbers and tables", the tables, with document 02's marks and last stamps. An entry past a table's end has a value too, so that every
-- definition has one for every content.
-- Assumes nothing.
use Rattle.std.specs.Prelude.{ℕ, ◌+◌, ◌*◌, List, get_or}
use Rattle.rules.specs.declared.Params.{Params}

-- the lent chip and the seven lent tables
pub record Board : Type 0 where
  pub chip : List ℕ
  pub ct : List ℕ
  pub bt : List ℕ
  pub fst : List ℕ
  pub bst : List ℕ
  pub wear : List ℕ
  pub marks : List ℕ
  pub stamps : List ℕ

-- as they are lent, one after the other
abbrev pub board_of : List ℕ → List ℕ → List ℕ → List ℕ → List ℕ → List ℕ → List ℕ → List ℕ → Board
board_of chip ct bt fst bst wear marks stamps =
    record { chip = chip; ct = ct; bt = bt; fst = fst; bst = bst; wear = wear; marks = marks; stamps = stamps }

-- "65,535 means none in all three"
abbrev pub none : ℕ
none = 65535

-- "CT: a 16-bit segment per cluster"
unfoldable pub ct_at : List ℕ → ℕ → ℕ
ct_at ct c = get_or ct c none

-- "BT: a 16-bit physical block per region and virtual block, region first"
unfoldable pub bt_entry : List ℕ → ℕ → ℕ
bt_entry bt i = get_or bt i none

unfoldable pub bt_at : Params → List ℕ → ℕ → ℕ → ℕ
bt_at p bt r v = bt_entry bt (r * p.gamma + v)

-- "FST: a 16-bit segment per region"
unfoldable pub fst_at : List ℕ → ℕ → ℕ
fst_at fst r = get_or fst r none

-- "BST: a byte per physical block, 0 free, 1 used, 2 reserved"
unfoldable pub bst_at : List ℕ → ℕ → ℕ
bst_at bst n = get_or bst n 0

-- "Wear: a 32-bit erase count per block"
unfoldable pub wear_at : List ℕ → ℕ → ℕ
wear_at wear n = get_or wear n 0

-- T-06: "four 64-bit words for each region and virtual block": word w of virtual block v of region r stands at 4·(r·γ + v) + w
abbrev pub marks_length : Params → ℕ
marks_length p = 4 * (p.mu * p.gamma)

abbrev pub mark_index : Params → ℕ → ℕ → ℕ → ℕ
mark_index p r v w = 4 * (r * p.gamma + v) + w

unfoldable pub word_at : List ℕ → ℕ → ℕ
word_at marks k = get_or marks k 0

-- T-07: "A new lent table holds each region's last stamp, 32 bits"
unfoldable pub stamp_at : List ℕ → ℕ → ℕ
stamp_at stamps r = get_or stamps r 0

-- what a search gives that finds nothing: each is over numbers below it
abbrev pub not_found : ℕ
not_found = 65535
