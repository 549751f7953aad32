-- T-01 beside the conditions: an item's data in its turn, and a queue on a state that is not orderly.
-- Assumes nothing.
use mathlib.Core.Path.{◌≡◌, refl, ap, ◌∙◌}
use mathlib.Core.Bool.{true, false}
use mathlib.Core.List.{List, [], ◌∷◌, map}
use Prim.Native.Nat.{ℕ}
use native.Mathlib.Omega.{arith}
use borrow.Author.Tests.{not-false}
use Rattle.rules.specs.declared.Params.{Params}
use Rattle.rules.specs.declared.Reply.TheVariants.{Accepted, NotOrderly}
use Rattle.rules.specs.declared.Item.{Item}
use Rattle.rules.specs.Parameters.{allowed}
use Rattle.rules.specs.Tables.{Board}
use Rattle.rules.specs.Orderly.{orderly}
use Rattle.rules.specs.Requests.{Queue, Request, item_request, item_requests, lent, queue, write}
use Rattle.rules.specs.Replies.{access_rows, bad_address, bad_count, bad_parameter, early_rows, first_row, lengths_fit, lent_rows, not_orderly, number_of, order_row, queue_rows, reply_of, rows_of, stamp_row, wrong_data, wrong_length}
use Rattle.rules.specs.Calls.{Work, answer_of, refuses, single, write_all, write_work}
use Rattle.rules.proofs.Admitted.{passed}
use Rattle.rules.proofs.ItemData.{item_data}
use Rattle.rules.proofs.Outcomes.{is_refused, queue_accepted, work_refused}
use Rattle.claims.specs.Requests.{DataInItsTurn, OnDisorder, disordered_part}

pub data_in_its_turn : DataInItsTurn
data_in_its_turn = item_data

-- ---- on a state that is not orderly

-- a queue past its own refusals has its parameters and lengths right
queue_fits : (p : Params) (b : Board) (l : Queue) → reply_of p b (queue l) ≡ Accepted → (allowed p ≡ true) × (lengths_fit p b ≡ true)
unfolding reply_of rows_of queue_rows lent_rows first_row bad_parameter wrong_length
queue_fits p b l e =
    let a = passed (bad_parameter p) _ _ (λ x. omega arith) e in
    let w = passed (wrong_length p b) _ _ (λ x. omega arith) a.1 in
    (not-false _ a.0, not-false _ w.0)

module _ (p : Params) (b : Board) (fine : allowed p ≡ true) (fits : lengths_fit p b ≡ true) (no' : orderly p b ≡ false) where
  -- each write gets 3, 4, 5 or else 7
  write_reply_lem : (q : Request) → reply_of p b (write q) ≡ first_row NotOrderly (access_rows p q)
  unfolding reply_of rows_of early_rows lent_rows access_rows order_row stamp_row first_row bad_parameter wrong_length not_orderly
  write_reply_lem q = rw (fine, fits, no')

  some_refusal : (q : Request) → first_row NotOrderly (access_rows p q) ≡ Accepted → ⊥
  unfolding access_rows first_row
  some_refusal q e =
      let c = passed (bad_count p q) _ _ (λ x. omega arith) e in
      let i = passed (bad_address p q.lba) _ _ (λ x. omega arith) c.1 in
      let d = passed (wrong_data p q) _ _ (λ x. omega arith) i.1 in
      let k : ◌≡◌ {A = ℕ} 7 0 = ap number_of d.1 in
      omega arith

  refused_write : (q : Request) → write_work p b q ≡ refuses p b (write q)
  unfolding write_work
  refused_write q = work_refused p b (write q) _ _ _ _ (is_refused (reply_of p b (write q)) (λ e. some_refusal q (rw (write_reply_lem q) at e)))

  refused_part : (q : Request) → (write_work p b q).parts ≡ record { asks = write q; answer = answer_of (first_row NotOrderly (access_rows p q)) [] 0; bytes = q.bytes; ops = [] } ∷ []
  unfolding refuses single lent
  refused_part q = ap (λ (w : Work). w.parts) (refused_write q) ∙ rw (write_reply_lem q)

  refused_left : (q : Request) → (write_work p b q).left ≡ b
  unfolding refuses single
  refused_left q = ap (λ (w : Work). w.left) (refused_write q)

  all_left : (l : Queue) (items : List Item) → (write_all p b (item_requests p l.bytes items) l).left ≡ b
  unfolding item_requests write_all
  all_left l [] = refl
  all_left l (it ∷ items) =
      ap (λ (x : Board). (write_all p x (item_requests p l.bytes items) l).left) (refused_left (item_request p l.bytes it)) ∙ all_left l items

  all_parts : (l : Queue) (items : List Item) → (write_all p b (item_requests p l.bytes items) l).parts ≡ map (disordered_part p l) items
  unfolding item_requests write_all disordered_part
  all_parts l [] = refl
  all_parts l (it ∷ items) = rw (refused_part (item_request p l.bytes it), refused_left (item_request p l.bytes it), all_parts l items)

pub on_disorder : OnDisorder
on_disorder p b l e no' =
    let fit = queue_fits p b l e in
    record {
      each = rw (queue_accepted p b l e) (all_parts p b fit.0 fit.1 no' l l.items);
      same = rw (queue_accepted p b l e) (all_left p b fit.0 fit.1 no' l l.items);
    }
