-- A format and a start report no program, and one erase for each block that is not bad, or that is left over.
-- Assumes nothing.
use mathlib.Core.Path.{◌≡◌, ap, ◌∙◌}
use Prim.Native.Nat.{ℕ}
use mathlib.Core.Bool.{not}
use mathlib.Core.List.{List}
use Rattle.lists.specs.Below.{count_below}
use Rattle.rules.specs.declared.Params.{Params}
use Rattle.rules.specs.declared.Reply.TheVariants.{Accepted}
use Rattle.rules.specs.Tables.{Board}
use Rattle.rules.specs.Traces.{erase_where, erases_in, programs_in}
use Rattle.rules.specs.Requests.{format}
use Rattle.rules.specs.Format.{bad, format_ops}
use Rattle.rules.specs.Start.{left_over, start_ops}
use Rattle.rules.specs.Replies.{reply_of}
use Rattle.rules.specs.Calls.{Outcome, answer_of, outcome_of}
use Rattle.rules.proofs.Outcomes.{format_accepted}
use Rattle.rules.proofs.Erases.{erases_counted, erases_below}

-- one for each block that is not bad
format_erases : (p : Params) (chip wear : List ℕ) → (programs_in (format_ops p chip wear) ≡ 0) × (erases_in (format_ops p chip wear) ≡ count_below p.N (λ n. not (bad p chip n)))
unfolding format_ops erase_where erases_below
format_erases p chip wear = erases_counted p wear (λ n. not (bad p chip n)) p.N

pub format_programs : (p : Params) (chip wear : List ℕ) → programs_in (format_ops p chip wear) ≡ 0
format_programs p chip wear = (format_erases p chip wear).0

pub format_counts : (p : Params) (b : Board) → reply_of p b format ≡ Accepted
    → (outcome_of p b format).answer ≡ record { reply = Accepted; programs = 0; erases = count_below p.N (λ n. not (bad p b.chip n)); looks = 0 }
unfolding answer_of
format_counts p b e =
    let k = format_erases p b.chip b.wear in
    ap (λ (o : Outcome). o.answer) (format_accepted p b e) ∙ (λ i. record { reply = Accepted; programs = k.0 i; erases = k.1 i; looks = 0 })

pub start_counts : (p : Params) (chip wear : List ℕ) → (programs_in (start_ops p chip wear) ≡ 0) × (erases_in (start_ops p chip wear) ≡ count_below p.N (left_over p chip))
unfolding start_ops erase_where erases_below
start_counts p chip wear = erases_counted p wear (left_over p chip) p.N
