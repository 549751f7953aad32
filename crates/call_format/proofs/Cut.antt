-- A format with a budget: its erases and marks are those of the blocks that are not bad, which BST lists once the bad ones are reserved. Nothing that it does depends on what BST holds.
-- Assumes nothing.
use mathlib.Core.Path.{◌≡◌, refl, sym, ap, ◌∙◌}
use mathlib.Core.Bool.{Bool, true, not, cond}
use mathlib.Core.List.{List, []}
use Prim.Native.Nat.{ℕ, ◌≤◌, ◌<◌}
use lib.ListN.{length, take}
use Rattle.lists.specs.Below.{list_below}
use Rattle.lists.proofs.Lists.{list_cong, list_length}
use Rattle.rules.specs.declared.Params.{Params}
use Rattle.rules.specs.declared.Reply.TheVariants.{Accepted}
use Rattle.rules.specs.declared.Answer.{Answer}
use Rattle.rules.specs.Parameters.{allowed}
use Rattle.rules.specs.Tables.{Board}
use Rattle.rules.specs.Traces.{erase_where}
use Rattle.rules.specs.Format.{bad, format_ops, formatted}
use Rattle.rules.specs.Requests.{format}
use Rattle.rules.specs.Replies.{lengths_fit, lent_rows, reply_of, rows_of, too_few_blocks, wrong_length}
use Rattle.rules.specs.Calls.{Outcome, answer_of, outcome_of, single, work_of}
use Rattle.rules.specs.Cuts.{cut_board, has_budget, limited, step_outcome}
use Rattle.rules.proofs.Outcomes.{format_accepted}
use Rattle.cut_erases.specs.Listed.{listed}
use Rattle.cut_erases.proofs.Board.{count_is}
use Rattle.cut_erases.proofs.Ends.{ends, fits_same, over, whole}
use Rattle.format_work.proofs.Turns.{flipped}
use Rattle.outcomes.specs.Claims.{outcome}
use Rattle.outcomes.proofs.Cuts.{format_work}
use Rattle.call_format.proofs.Call.{asked, given}

module _ (p : Params) (b : Board) (e : reply_of p b format ≡ Accepted) where
  abbrev good : ℕ → Bool
  good n = not (bad p b.chip n)

  work : work_of p b format ≡ single format (answer_of Accepted (erase_where p b.wear good) 0) [] (erase_where p b.wear good) (formatted p b)
  unfolding format_ops
  work = format_work p b e

  -- BST once the bad blocks are reserved
  module _ (bst : List ℕ) (is : bst ≡ list_below p.N (λ n. cond (bad p b.chip n) 2 0)) where
    lists_good : bst ≡ list_below p.N (λ n. cond (good n) 0 2)
    lists_good = is ∙ list_cong p.N _ _ (λ n low. flipped (bad p b.chip n) 2 0)

    pub bst_long : length bst ≡ p.N
    bst_long = ap length is ∙ list_length p.N _

    fits : lengths_fit p (over b b.bt bst) ≡ lengths_fit p b
    fits = fits_same p b b.bt bst refl (bst_long ∙ sym (asked p b e).bst_length)

    pub cut_asked : (allowed p ≡ true) × (lengths_fit p (over b b.bt bst) ≡ true)
    cut_asked = ((given p b e).fine, fits ∙ (given p b e).lengths)

    -- the reply is the same
    pub still_accepted : reply_of p (over b b.bt bst) format ≡ Accepted
    unfolding reply_of rows_of lent_rows wrong_length too_few_blocks
    still_accepted = rw fits e

    -- and so is the outcome
    still_leaves : outcome_of p (over b b.bt bst) format ≡ outcome_of p b format
    unfolding formatted
    still_leaves = format_accepted p (over b b.bt bst) still_accepted ∙ sym (format_accepted p b e)

    module _ (k n : ℕ) (counted : n ≡ length (erase_where p b.wear (listed bst))) where
      count : n ≡ length (erase_where p b.wear good)
      count = count_is p good bst lists_good b.wear n counted

      pub format_whole : n < k → (o : Outcome) → o ≡ outcome_of p (over b b.bt bst) format → o ≡ step_outcome p b (limited k format)
      format_whole h o q = whole p b format good _ work k n count h o (q ∙ still_leaves)

      pub format_ends : k ≤ n → (a : Answer) → a ≡ answer_of Accepted [] 0 → (b' : Board)
          → b' ≡ cut_board p (over b b.bt bst) (take k (erase_where p b.wear (listed bst))) → outcome a [] [] b' ≡ step_outcome p b (limited k format)
      unfolding has_budget
      format_ends h a ea b' q = ends p b format good _ work k n count b.bt bst lists_good refl h e Accepted (sym e) a ea b' q
