-- Two outcomes that a queue of two from C is claimed to have are one: the claim tells the call's own answer and both items' by the outcome alone.
-- Assumes nothing.
use mathlib.Core.Path.{◌≡◌, sym, ap, ap₂, ◌∙◌}
use mathlib.Core.List.{List, [], ◌∷◌}
use Prim.Native.Nat.{ℕ}
use lib.ListN.{get_or}
use Rattle.rules.specs.declared.Answer.{Answer}
use Rattle.rules.specs.Tables.{Board}
use Rattle.rules.specs.Calls.{Outcome}
use Rattle.outcomes.specs.Claims.{outcome}
use Rattle.c_answer.specs.Packed.{packed}
use Rattle.queue_test.specs.Two.{Two, both, placed, unset}

pub two_once : (o : Outcome) (before x x' after after' : List ℕ) (w w' : ℕ) (b b' : Board)
    → Two o x before w after b → Two o x' before w' after' b' → (w ≡ w') × (x ≡ x') × (after ≡ after') × (b ≡ b')
two_once o before x x' after after' w w' b b' t t' =
    let e : outcome t.own x (t.first ∷ t.second ∷ []) b ≡ outcome t'.own x' (t'.first ∷ t'.second ∷ []) b' = t.whole ∙ sym t'.whole in
    let own : t.own ≡ t'.own = ap (λ (y : Outcome). y.answer) e in
    let first : t.first ≡ t'.first = ap (λ (y : Outcome). get_or y.answers 0 unset) e in
    let second : t.second ≡ t'.second = ap (λ (y : Outcome). get_or y.answers 1 unset) e in (
      t.result ∙ ap packed own ∙ sym t'.result,
      ap (λ (y : Outcome). y.bytes) e,
      t.list ∙ ap₂ (λ (f s : Answer). placed (both f s) before) first second ∙ sym t'.list,
      ap (λ (y : Outcome). y.board) e,
    )
