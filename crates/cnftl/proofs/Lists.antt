-- What the call leaves, by the length of the lent list.
-- Assumes nothing.
use mathlib.Core.Path.{◌≡◌, sym, ◌∙◌}
use mathlib.Core.Bool.{Bool, cond}
use mathlib.Core.List.{List}
use Prim.Native.Nat.{ℕ}
use lib.ListN.{get_or, length}
use borrow.Author.Tests.{ne_eqb}
use Rattle.rules.specs.declared.Params.{Params}
use Rattle.rules.specs.Parameters.{allowed}
use Rattle.rules.specs.Tables.{Board}
use Rattle.call_why.specs.Why.{why_of}
use Rattle.c_why.specs.Told.{tells}
use Rattle.cnftl.specs.Listed.{Listed, told_list, told_reply}

-- the call's reply and list, where the list has thirteen entries and where it has not
module _ (p : Params) (b : Board) (lba : ℕ) (list : List ℕ) where
  pub listed : length list ≡ 13 → (ns : List ℕ) → ns ≡ why_of p b lba → (word : ℕ) → word ≡ get_or ns 0 0 → (list' : List ℕ) → list' ≡ cond (tells (get_or ns 0 0)) ns list → Listed p b lba list word list'
  unfolding told_reply told_list
  listed l ns is word r list' e = record { reply = rw l (r ∙ rw is); numbers = rw l (e ∙ rw is) }

  pub unlisted : (length list ≡ 13 → ⊥) → (t : Bool) → t ≡ allowed p → (word : ℕ) → word ≡ cond t 2 1 → Listed p b lba list word list
  unfolding told_reply told_list
  unlisted ne t is word e = record { reply = rw (ne_eqb (length list) 13 ne) (e ∙ rw is); numbers = rw (ne_eqb (length list) 13 ne) }

-- what the call leaves, it leaves once
pub listed_once : (p : Params) (b : Board) (lba : ℕ) (list : List ℕ) (w w' : ℕ) (x x' : List ℕ) → Listed p b lba list w x → Listed p b lba list w' x' → (w ≡ w') × (x ≡ x')
listed_once p b lba list w w' x x' g g' = (g.reply ∙ sym g'.reply, g.numbers ∙ sym g'.numbers)
