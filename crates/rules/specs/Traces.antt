-- What a call does to the chip, as a trace: page programs, block erases and marks of worn blocks in their order. The chip and the wear after a call are the trace's
-- replay, what the call reports is counted on it, and the board that it leaves is that
-- replay with the tables that the call decides and the marks of all these.
-- Assumes nothing.
use Rattle.std.specs.Prelude.{ℕ, suc, ◌+◌, ◌*◌, min, Bool, true, false, ◌&&◌, cond, List, [], ◌∷◌, ◌++◌, leb, set, replicate}
use Rattle.lists.specs.Below.{join_below}
use Rattle.lists.specs.Parts.{part, put_part}
use Rattle.rules.specs.declared.Params.{Params}
use Rattle.rules.specs.Parameters.{pages, page_bytes, block_bytes}
use Rattle.rules.specs.Tables.{Board, wear_at}
use Rattle.rules.specs.Pages.{page, erased}
use Rattle.rules.specs.Marks.{marks_of}

-- page q of block n programmed with these bytes; block n erased; T-12: block n marked as worn
pub data Op : Type 0 where
  program : ℕ → ℕ → List ℕ → Op
  erase : ℕ → Op
  mark : ℕ → Op

-- page q of block n, counted over the chip, "pages in block order"
abbrev pub page_at : Params → ℕ → ℕ → ℕ
page_at p n q = n * pages p + q

-- T-12: "its first page gets a zero in spare byte 5": a page of ones but for that byte
unfoldable pub mark_page : Params → List ℕ
mark_page p = replicate (p.s + 5) 255 ++ (0 ∷ replicate 10 255)

unfoldable pub on_chip : Params → List ℕ → Op → List ℕ
on_chip p chip (program n q x) = put_part (page_bytes p) (page_at p n q) x chip
on_chip p chip (erase n) = put_part (block_bytes p) n (replicate (block_bytes p) 255) chip
on_chip p chip (mark n) = put_part (page_bytes p) (page_at p n 0) (mark_page p) chip

-- "a 32-bit erase count per block, which stays at 4,294,967,295 once there"
unfoldable pub on_wear : List ℕ → Op → List ℕ
on_wear wear (program n q x) = wear
on_wear wear (erase n) = set wear n (min (wear_at wear n + 1) 4294967295)
on_wear wear (mark n) = wear

unfoldable pub replay_chip : Params → List ℕ → List Op → List ℕ
replay_chip p chip [] = chip
replay_chip p chip (o ∷ os) = replay_chip p (on_chip p chip o) os

unfoldable pub replay_wear : List ℕ → List Op → List ℕ
replay_wear wear [] = wear
replay_wear wear (o ∷ os) = replay_wear (on_wear wear o) os

-- "Each page that the steps program is 255 throughout just before"
unfoldable pub clean : Params → List ℕ → List Op → Bool
clean p chip [] = true
clean p chip (program n q x ∷ os) = erased (part (page_bytes p) (page_at p n q) chip) && clean p (on_chip p chip (program n q x)) os
clean p chip (erase n ∷ os) = clean p (on_chip p chip (erase n)) os
clean p chip (mark n ∷ os) = erased (part (page_bytes p) (page_at p n 0) chip) && clean p (on_chip p chip (mark n)) os

unfoldable pub is_program : Op → Bool
is_program (program n q x) = true
is_program (erase n) = false
is_program (mark n) = false

unfoldable pub is_erase : Op → Bool
is_erase (program n q x) = false
is_erase (erase n) = true
is_erase (mark n) = false

-- the two counts of an answer that are of its operations; T-12: "mark programs .. are not reported"
unfoldable pub programs_in : List Op → ℕ
programs_in [] = 0
programs_in (o ∷ os) = cond (is_program o) 1 0 + programs_in os

unfoldable pub erases_in : List Op → ℕ
erases_in [] = 0
erases_in (o ∷ os) = cond (is_erase o) 1 0 + erases_in os

-- T-12: "When an erase .. brings a block's wear to E or more", from what it was before
unfoldable pub worn : Params → List ℕ → ℕ → Bool
worn p wear n = leb p.E (wear_at wear n + 1)

-- block n erased, and "its first page gets a zero in spare byte 5" where that wears it out
unfoldable pub erase_ops : Params → List ℕ → ℕ → List Op
erase_ops p wear n = erase n ∷ cond (worn p wear n) (mark n ∷ []) []

-- "and the block becomes reserved"; else it is free
unfoldable pub erased_state : Params → List ℕ → ℕ → ℕ
erased_state p wear n = cond (worn p wear n) 2 0

-- the blocks below N that pass, erased in rising order
unfoldable pub erase_where : Params → List ℕ → (ℕ → Bool) → List Op
erase_where p wear f = join_below p.N (λ n. cond (f n) (erase_ops p wear n) [])

-- the first k pages of frame f of block n, programmed with those of x in order
unfoldable pub frame_ops : Params → ℕ → ℕ → List ℕ → ℕ → List Op
frame_ops p n f x k = join_below k (λ j. program n (f * p.alpha + j) (page p x j) ∷ [])

-- the frames of a list, one after the other from frame `to` on
unfoldable pub frames_ops : Params → ℕ → ℕ → List (List ℕ) → List Op
frames_ops p n to [] = []
frames_ops p n to (x ∷ xs) = frame_ops p n to x p.alpha ++ frames_ops p n (suc to) xs

-- ---- the board that is left

-- the tables that a call decides; chip and wear follow from its operations, and the marks from all of these
pub record NewTables : Type 0 where
  pub ct : List ℕ
  pub bt : List ℕ
  pub fst : List ℕ
  pub bst : List ℕ
  pub stamps : List ℕ

-- the board b once these operations are made, with these tables and these marks
abbrev pub made : Params → Board → List Op → NewTables → List ℕ → Board
made p b ops t marks =
    record {
      chip = replay_chip p b.chip ops;
      ct = t.ct;
      bt = t.bt;
      fst = t.fst;
      bst = t.bst;
      wear = replay_wear b.wear ops;
      marks = marks;
      stamps = t.stamps;
    }

-- T-06: the marks are those of the board itself
abbrev pub finish : Params → Board → List Op → NewTables → Board
finish p b ops t = made p b ops t (marks_of p (made p b ops t []))
