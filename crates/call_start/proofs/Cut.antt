-- A start with a budget: its erases and marks are those of the blocks that are left over, which BST lists. Nothing that it does depends on what BT and BST hold.
-- Assumes nothing.
use mathlib.Core.Path.{◌≡◌, refl, sym, ap, ◌∙◌}
use mathlib.Core.Bool.{true, cond}
use mathlib.Core.List.{List, []}
use Prim.Native.Nat.{ℕ, ◌≤◌, ◌<◌}
use lib.ListN.{length, take}
use Rattle.lists.specs.Below.{list_below}
use Rattle.lists.proofs.Lists.{list_length}
use Rattle.rules.specs.declared.Params.{Params}
use Rattle.rules.specs.declared.Reply.TheVariants.{Accepted}
use Rattle.rules.specs.declared.Answer.{Answer}
use Rattle.rules.specs.Parameters.{allowed}
use Rattle.rules.specs.Tables.{Board}
use Rattle.rules.specs.Traces.{erase_where}
use Rattle.rules.specs.Start.{left_over, start_ops, started}
use Rattle.rules.specs.Requests.{start}
use Rattle.rules.specs.Replies.{lengths_fit, lent_rows, not_startable, reply_of, rows_of, wrong_length}
use Rattle.rules.specs.Calls.{Outcome, answer_of, outcome_of, single, work_of}
use Rattle.rules.specs.Cuts.{cut_board, has_budget, limited, step_outcome}
use Rattle.rules.proofs.Outcomes.{start_accepted}
use Rattle.starts.specs.Admitted.{StartAdmitted}
use Rattle.starts.proofs.Accepted.{start_admitted}
use Rattle.cut_erases.specs.Listed.{listed}
use Rattle.cut_erases.proofs.Board.{count_is}
use Rattle.cut_erases.proofs.Ends.{ends, fits_same, over, whole}
use Rattle.start_work.proofs.Left.{long}
use Rattle.outcomes.specs.Claims.{outcome}
use Rattle.outcomes.proofs.Cuts.{start_work}

module _ (p : Params) (b : Board) (e : reply_of p b start ≡ Accepted) where
  given : StartAdmitted p b
  given = start_admitted p b e

  work : work_of p b start ≡ single start (answer_of Accepted (erase_where p b.wear (left_over p b.chip)) 0) [] (erase_where p b.wear (left_over p b.chip)) (started p b)
  unfolding start_ops
  work = start_work p b e

  pub count_asked : (bst : List ℕ) → bst ≡ list_below p.N (λ n. cond (left_over p b.chip n) 0 2) → (allowed p ≡ true) × ((length bst ≡ p.N) × (length b.wear ≡ p.N))
  count_asked bst is = (given.fine, (ap length is ∙ list_length p.N _, (long p b given).wear_length))

  -- BT and BST once what is left over is listed
  module _ (bt bst : List ℕ) (same : length bt ≡ length b.bt) (is : bst ≡ list_below p.N (λ n. cond (left_over p b.chip n) 0 2)) where
    fits : lengths_fit p (over b bt bst) ≡ lengths_fit p b
    fits = fits_same p b bt bst same (ap length is ∙ list_length p.N _ ∙ sym (long p b given).bst_length)

    pub cut_asked : (allowed p ≡ true) × (lengths_fit p (over b bt bst) ≡ true)
    cut_asked = (given.fine, fits ∙ given.lengths)

    -- the reply is the same
    pub still_accepted : reply_of p (over b bt bst) start ≡ Accepted
    unfolding reply_of rows_of lent_rows wrong_length not_startable
    still_accepted = rw fits e

    -- and so is the outcome
    still_leaves : outcome_of p (over b bt bst) start ≡ outcome_of p b start
    unfolding started
    still_leaves = start_accepted p (over b bt bst) still_accepted ∙ sym (start_accepted p b e)

    module _ (k n : ℕ) (counted : n ≡ length (erase_where p b.wear (listed bst))) where
      count : n ≡ length (erase_where p b.wear (left_over p b.chip))
      count = count_is p (left_over p b.chip) bst is b.wear n counted

      pub start_whole : n < k → (o : Outcome) → o ≡ outcome_of p (over b bt bst) start → o ≡ step_outcome p b (limited k start)
      start_whole h o q = whole p b start (left_over p b.chip) _ work k n count h o (q ∙ still_leaves)

      pub start_ends : k ≤ n → (a : Answer) → a ≡ answer_of Accepted [] 0 → (b' : Board)
          → b' ≡ cut_board p (over b bt bst) (take k (erase_where p b.wear (listed bst))) → outcome a [] [] b' ≡ step_outcome p b (limited k start)
      unfolding has_budget
      start_ends h a ea b' q = ends p b start (left_over p b.chip) _ work k n count bt bst is refl h e Accepted (sym e) a ea b' q
