-- The layer's outcome with its answer packed.
-- Assumes nothing.
use mathlib.Core.Path.{◌≡◌, sym, ap, ◌∙◌, subst}
use mathlib.Core.List.{List, []}
use Prim.Native.Nat.{ℕ, ◌<◌}
use Rattle.rules.specs.declared.Params.{Params}
use Rattle.rules.specs.declared.Answer.{Answer}
use Rattle.rules.specs.Tables.{Board}
use Rattle.rules.specs.Requests.{Call}
use Rattle.rules.specs.Calls.{Outcome, outcome_of}
use Rattle.rules.specs.Cuts.{Step, plain, step_outcome}
use Rattle.outcomes.specs.Claims.{outcome}
use Rattle.c_answer.specs.Packed.{packed}
use Rattle.c_answer.proofs.Counts.{few_step}
use Rattle.cnftl.specs.Packed.{Given}

-- of a call with a budget or without
module _ (p p' : Params) (same : p ≡ p') (a : Answer) (bytes : List ℕ) (b b' : Board) (s : Step) (e : outcome a bytes [] b' ≡ step_outcome p b s) where
  pub few_by : a.programs < 65536
  few_by = subst (λ (o : Outcome). o.answer.programs < 65536) (sym e) (few_step p b s)

  pub given_by : (w : ℕ) → w ≡ packed a → Given (step_outcome p' b s) w bytes b'
  given_by w is =
      let k : outcome a bytes [] b' ≡ step_outcome p' b s = e ∙ ap (λ (y : Params). step_outcome y b s) same in
      record {
        answer = is ∙ ap (λ (o : Outcome). packed o.answer) k;
        bytes_are = ap (λ (o : Outcome). o.bytes) k;
        board = ap (λ (o : Outcome). o.board) k;
      }

-- without
module _ (p p' : Params) (same : p ≡ p') (a : Answer) (bytes : List ℕ) (b b' : Board) (c : Call) (e : outcome a bytes [] b' ≡ outcome_of p b c) where
  pub few : a.programs < 65536
  unfolding step_outcome
  few = few_by p p' same a bytes b b' (plain c) e

  pub given : (w : ℕ) → w ≡ packed a → Given (outcome_of p' b c) w bytes b'
  unfolding step_outcome
  given = given_by p p' same a bytes b b' (plain c) e

-- what is given is given once
pub given_once : (o : Outcome) (w w' : ℕ) (x x' : List ℕ) (b b' : Board) → Given o w x b → Given o w' x' b' → (w ≡ w') × (x ≡ x') × (b ≡ b')
given_once o w w' x x' b b' g g' = (g.answer ∙ sym g'.answer, g.bytes_are ∙ sym g'.bytes_are, g.board ∙ sym g'.board)
