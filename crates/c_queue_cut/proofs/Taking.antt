-- The turns of a queue with a budget: what one leaves, and that after i of them what is left to serve comes to the same as the whole.
-- Assumes nothing.
use mathlib.Core.Path.{◌≡◌, refl, sym, ap, ◌∙◌}
use mathlib.Core.Bool.{Bool}
use mathlib.Core.List.{List}
use Prim.Native.Nat.{ℕ, ◌+◌, ◌*◌, ◌<◌, ◌≤◌}
use native.Mathlib.Omega.{arith}
use lib.ListN.{drop, get_or, length, set, take}
use borrow.Author.Tests.{ne_eqb}
use Rattle.rules.specs.declared.Params.{Params}
use Rattle.rules.specs.declared.Answer.{Answer}
use Rattle.rules.specs.declared.Item.{Item}
use Rattle.rules.specs.Tables.{Board}
use Rattle.rules.specs.Requests.{item_of, item_request, write}
use Rattle.rules.specs.Cuts.{limited}
use Rattle.queue_turns.specs.Limited.{item_step, turn_of, turns_from}
use Rattle.queue_turns.proofs.Limited.{none_taken, one_taken}
use Rattle.queue_head.specs.Heads.{Ready}
use Rattle.queue_item.specs.Items.{ItemLimited}
use Rattle.c_answer.specs.Packed.{packed}
use Rattle.c_answer.proofs.Counts.{few_step}
use Rattle.c_queue.specs.Flat.{TurnAsked, TurnsAsked, items_of, request_at}
use Rattle.c_queue.proofs.Requests.{items_at}
use Rattle.c_queue_cut.specs.Cut.{TurnCut, stage}

-- ---- one turn

-- no item programs more pages than have room in its number, with any budget
pub few_limited : (p : Params) (ordered : Bool) (b : Board) (bytes : List ℕ) (k : ℕ) (it : Item) (a : Answer) (rest : ℕ) (b' : Board) → ItemLimited p ordered b bytes k it a rest b' → a.programs < 65536
unfolding item_step
few_limited p ordered b bytes k it a rest b' h = rw h.answered (few_step p b (limited k (write (item_request p bytes it))))

module _ (p : Params) (ordered : Bool) (b : Board) (requests bytes answers : List ℕ) (i : ℕ) where
  -- with nothing left nothing is done
  pub turn_none : (k : ℕ) → k ≡ 0 → TurnCut p ordered b requests bytes answers i k b answers 0
  unfolding turn_of
  turn_none k e = record { goes = rw e; ready = λ some. absurd (some refl) }

  module _ (k : ℕ) (some : k ≡ 0 → ⊥) (a : Answer) (rest : ℕ) (b' : Board)
      (h : ItemLimited p ordered b bytes k (item_of (get_or requests (3 * i) 0) (get_or requests (3 * i + 1) 0) (get_or requests (3 * i + 2) 0)) a rest b') where
    -- the item took the last of it, and is not answered
    pub turn_last : rest ≡ 0 → TurnCut p ordered b requests bytes answers i k b' answers rest
    unfolding turn_of request_at
    turn_last e = record { goes = rw (ne_eqb k 0 some, ← h.left, e, h.board); ready = h.ready }

    -- or it is answered
    pub turn_more : (rest ≡ 0 → ⊥) → (answers' : List ℕ) → answers' ≡ set answers i (packed a) → TurnCut p ordered b requests bytes answers i k b' answers' rest
    unfolding turn_of request_at
    turn_more e answers' g = record { goes = rw (ne_eqb k 0 some, ← h.left, ne_eqb rest 0 e, h.board, g, h.answered); ready = h.ready }

-- ---- the turns

module _ (p : Params) (ordered : Bool) (requests bytes : List ℕ) (n : ℕ) (b₀ : Board) (answers₀ : List ℕ) (k₀ : ℕ) where
  -- after i turns
  pub record So (i : ℕ) (b : Board) (answers : List ℕ) (k : ℕ) : Type 0 where
    pub ready : 0 < n → (k ≡ 0 → ⊥) → Ready p ordered b
    pub same : turns_from packed p bytes (drop i (take n (items_of requests))) i (stage b answers k) ≡ turns_from packed p bytes (take n (items_of requests)) 0 (stage b₀ answers₀ k₀)

  module _ (a : TurnsAsked p ordered b₀ requests answers₀ n) where
    pub start : So 0 b₀ answers₀ k₀
    start = record { ready = λ h some. a.ready h; same = refl }

    pub asked : (i : ℕ) → i < n → (answers : List ℕ) → length answers ≡ length answers₀ → TurnAsked requests answers i
    asked i h answers e = record { asked = omega (arith, a.asked); place = omega (arith, a.places, e) }

    pub next : (i : ℕ) → i < n → (b : Board) (answers : List ℕ) (k : ℕ) → So i b answers k
        → (b' : Board) (answers' : List ℕ) (k' : ℕ) → TurnCut p ordered b requests bytes answers i k b' answers' k' → So (i + 1) b' answers' k'
    next i h b answers k s b' answers' k' d =
        record {
          ready = λ _. d.ready;
          same =
              ap (turns_from packed p bytes (drop (i + 1) (take n (items_of requests))) (i + 1)) d.goes
              ∙ sym (one_taken packed p bytes (items_of requests) n i (request_at requests i) (stage b answers k) h (items_at requests i (omega (arith, a.asked))))
              ∙ s.same;
        }

    pub done : (i : ℕ) → n ≤ i → (b : Board) (answers : List ℕ) (k : ℕ) → So i b answers k
        → stage b answers k ≡ turns_from packed p bytes (take n (items_of requests)) 0 (stage b₀ answers₀ k₀)
    done i h b answers k s = none_taken packed p bytes (items_of requests) n i (stage b answers k) h ∙ s.same
