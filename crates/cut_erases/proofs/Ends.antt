-- A call that only erases and marks, with a budget: more in it than its operations, and it is the plain call; else the first of them are made and the tables lost. BT and BST may hold anything by then.
-- Assumes nothing.
use mathlib.Core.Path.{◌≡◌, sym, ap, ◌∙◌}
use mathlib.Core.Bool.{Bool, true, cond}
use mathlib.Core.List.{List, []}
use Prim.Native.Nat.{ℕ, ◌≤◌, ◌<◌}
use lib.ListN.{length, take}
use Rattle.lists.specs.Below.{list_below}
use Rattle.rules.specs.declared.Params.{Params}
use Rattle.rules.specs.declared.Reply.{Reply}
use Rattle.rules.specs.declared.Reply.TheVariants.{Accepted}
use Rattle.rules.specs.declared.Answer.{Answer}
use Rattle.rules.specs.Tables.{Board, board_of}
use Rattle.rules.specs.Traces.{erase_where}
use Rattle.rules.specs.Requests.{Call}
use Rattle.rules.specs.Replies.{lengths_fit, reply_of}
use Rattle.rules.specs.Calls.{Outcome, answer_of, outcome_of, single, work_of}
use Rattle.rules.specs.Cuts.{cut_board, has_budget, limited, step_outcome}
use Rattle.outcomes.specs.Claims.{outcome}
use Rattle.outcomes.proofs.Cuts.{step_cut, step_whole}
use Rattle.cut_erases.specs.Listed.{listed}
use Rattle.cut_erases.proofs.Board.{where_listed}

-- the board once BT and BST are written over
abbrev pub over : Board → List ℕ → List ℕ → Board
over b bt bst = board_of b.chip b.ct bt b.fst bst b.wear b.marks b.stamps

pub fits_same : (p : Params) (b : Board) (bt bst : List ℕ) → length bt ≡ length b.bt → length bst ≡ length b.bst → lengths_fit p (over b bt bst) ≡ lengths_fit p b
unfolding lengths_fit
fits_same p b bt bst x y = rw (x, y)

module _ (p : Params) (b : Board) (c : Call) (f : ℕ → Bool) (b'' : Board) (e : work_of p b c ≡ single c (answer_of Accepted (erase_where p b.wear f) 0) [] (erase_where p b.wear f) b'')
    (k n : ℕ) (counted : n ≡ length (erase_where p b.wear f)) where
  pub whole : n < k → (o : Outcome) → o ≡ outcome_of p b c → o ≡ step_outcome p b (limited k c)
  whole h o is = is ∙ sym (step_whole p b k c _ _ _ _ e (rw (← counted) h))

  module _ (bt bst : List ℕ) (is : bst ≡ list_below p.N (λ n. cond (f n) 0 2)) where
    board_is : (b' : Board) → b' ≡ cut_board p (over b bt bst) (take k (erase_where p b.wear (listed bst))) → b' ≡ cut_board p b (take k (erase_where p b.wear f))
    unfolding cut_board
    board_is b' q = q ∙ rw (where_listed p f bst is b.wear)

    pub ends : has_budget c ≡ true → k ≤ n → reply_of p b c ≡ Accepted → (r : Reply) → r ≡ reply_of p b c → (a : Answer) → a ≡ answer_of r [] 0
        → (b' : Board) → b' ≡ cut_board p (over b bt bst) (take k (erase_where p b.wear (listed bst))) → outcome a [] [] b' ≡ step_outcome p b (limited k c)
    ends has h accepted r er a ea b' q =
        (λ i. outcome ((ea ∙ ap (λ (y : Reply). answer_of y [] 0) (er ∙ accepted)) i) [] [] (board_is b' q i))
        ∙ sym (step_cut p b k c _ _ _ _ e has (rw (← counted) h))
