-- How a queue with a budget ends: refused, or with something left as the plain queue, or cut with its tables lost. Each is what `flat_cut` says.
-- Assumes nothing.
use mathlib.Core.Path.{◌≡◌, refl, sym, ap, ap₂, ◌∙◌}
use mathlib.Core.Logic.{◌⊎◌, inl, inr}
use mathlib.Core.Bool.{true, false, ◌||◌, cond, true≢false}
use mathlib.Core.List.{List, [], map}
use Prim.Native.Nat.{ℕ, ◌/◌, ◌%◌, ◌<◌, ◌≤◌}
use native.Mathlib.Omega.{arith}
use lib.Dec.{eqb, leb}
use lib.ListN.{length, take}
use borrow.Author.Tests.{le-leb, lt-leb}
use Rattle.std.specs.Prelude.{◌≢◌}
use Rattle.lists.proofs.Tests.{so}
use Rattle.rules.specs.declared.Params.{Params}
use Rattle.rules.specs.declared.Item.{Item}
use Rattle.rules.specs.declared.Reply.{Reply}
use Rattle.rules.specs.declared.Reply.TheVariants.{Accepted, WrongLength}
use Rattle.rules.specs.Tables.{Board, board_of}
use Rattle.rules.specs.Traces.{Op}
use Rattle.rules.specs.Requests.{Call, Queue, item_requests, queue}
use Rattle.rules.specs.Replies.{bad_parameter, first_row, is_accepted, lengths_fit, lent_rows, number_of, queue_rows, reply_of, rows_of, wrong_length}
use Rattle.rules.specs.Calls.{Work, answer_of, answers_in, ops_of, outcome_of, over, queue_work, work_of, write_all}
use Rattle.rules.specs.Cuts.{cut_board, cut_outcome, finished, has_budget, is_cut, limited, step_outcome}
use Rattle.rules.proofs.Outcomes.{all_answer, is_refused, queue_accepted}
use Rattle.rules.proofs.TableFacts.{lengths_in}
use Rattle.outcomes.proofs.Cuts.{step_refused}
use Rattle.queue_turns.specs.Limited.{Stage, turns_from}
use Rattle.queue_turns.proofs.Limited.{Ends, turns_end}
use Rattle.queue_head.specs.declared.Head.{Head}
use Rattle.queue_head.specs.Heads.{Serves, flat_reply}
use Rattle.c_answer.specs.Packed.{packed}
use Rattle.c_queue.specs.Flat.{FlatOutcome, flat_outcome, flat_queue, items_of}
use Rattle.c_queue.proofs.Requests.{items_length}
use Rattle.c_queue.proofs.Taking.{Long, accepted_is, all_items, own_word, same_reply, take_all, three, word_is, wrong_list}
use Rattle.chip_lost.specs.Lost.{Lost}
use Rattle.chip_lost.proofs.Board.{Lengths, lost_board}
use Rattle.c_queue_cut.specs.Cut.{flat_cut, stage}

module _ (p : Params) (b : Board) (requests bytes answers : List ℕ) (k : ℕ) where
  abbrev lent_queue : Queue
  lent_queue = flat_queue requests bytes answers

  abbrev call : Call
  call = queue lent_queue

  -- the definition, where the length of the list is three to a request
  abbrev by_step : FlatOutcome
  by_step =
      flat_outcome (packed (step_outcome p b (limited k call)).answer) (over (map packed (answers_in (finished k (work_of p b call).parts))) answers) (step_outcome p b (limited k call)).board

  -- ---- the queue is refused

  refused : is_accepted (reply_of p b call) ≡ false → flat_outcome (packed (answer_of (reply_of p b call) [] 0)) answers b ≡ by_step
  refused out = sym (rw (step_refused p b k call out) (unfold outcome_of work_of queue_work over answers_in finished in rw out))

  pub refused_done : (e : Reply) → (flat_reply p b (length requests) (length answers) ≡ e) × (flat_reply p b (length requests) (length answers) ≢ Accepted)
      → (word : ℕ) → word ≡ number_of e → flat_outcome word answers b ≡ flat_cut p b k requests bytes answers
  unfolding flat_cut
  refused_done e h word w = go (so (bad_parameter p || eqb (length requests % 3) 0))
    where
      go : (bad_parameter p || eqb (length requests % 3) 0 ≡ true) ⊎ (bad_parameter p || eqb (length requests % 3) 0 ≡ false) → flat_outcome word answers b ≡ flat_cut p b k requests bytes answers
      go (inl t) =
          let same = same_reply p b requests bytes answers t in
          let out = is_refused (reply_of p b call) (λ (x : reply_of p b call ≡ Accepted). h.1 (same ∙ x)) in
          unfold flat_cut in rw t (word_is p b requests bytes answers e (reply_of p b call) (sym h.0 ∙ same) word w ∙ refused out)
      go (inr t) = unfold flat_cut in rw t (word_is p b requests bytes answers e WrongLength (sym h.0 ∙ wrong_list p b requests bytes answers t) word w)

  -- ---- the queue is accepted

  module _ (z : flat_reply p b (length requests) (length answers) ≡ Accepted) (h : Head) (y : Serves p b (length requests / 3) (length answers) h) where
    -- what the turns leave
    abbrev ended : Stage ℕ
    ended = turns_from packed p bytes (take h.items (items_of requests)) 0 (stage b answers k)

    e : reply_of p b call ≡ Accepted
    e = accepted_is p b requests bytes answers z

    abbrev work : Work
    work = write_all p b (item_requests p bytes (items_of requests)) lent_queue

    abbrev ops : List Op
    ops = ops_of work.parts

    work_is : work_of p b call ≡ work
    work_is = queue_accepted p b lent_queue e

    own_answer : work.answer ≡ answer_of Accepted [] 0
    own_answer = all_answer p b (item_requests p bytes (items_of requests)) lent_queue

    cut_by : is_cut p b (limited k call) ≡ leb k (length ops)
    unfolding is_cut has_budget
    cut_by = rw (work_is, own_answer) (unfold is_accepted answer_of in refl)

    -- what its definition says, by whether something is left
    step_whole : length ops < k → flat_outcome (packed (step_outcome p b (limited k call)).answer) [] (step_outcome p b (limited k call)).board ≡ flat_outcome 0 [] work.left
    unfolding step_outcome outcome_of
    step_whole m = rw (cut_by, lt-leb k (length ops) m, work_is, own_answer) (ap (λ (w : ℕ). flat_outcome w [] work.left) (sym (own_word p b requests bytes answers Accepted)))

    step_short : k ≤ length ops → flat_outcome (packed (step_outcome p b (limited k call)).answer) [] (step_outcome p b (limited k call)).board ≡ flat_outcome 0 [] (cut_board p b (take k ops))
    unfolding step_outcome cut_outcome
    step_short m = rw (cut_by, le-leb k (length ops) m, work_is) (ap (λ (w : ℕ). flat_outcome w [] (cut_board p b (take k ops))) (sym (own_word p b requests bytes answers Accepted)))

    all_taken : ended ≡ turns_from packed p bytes (items_of requests) 0 (stage b answers k)
    all_taken =
        ap (λ (n : ℕ). turns_from packed p bytes (take n (items_of requests)) 0 (stage b answers k)) (all_items p b requests bytes answers z h y)
        ∙ ap (λ (its : List Item). turns_from packed p bytes its 0 (stage b answers k)) (take_all (items_of requests))

    pub ends : Ends packed p bytes lent_queue b (items_of requests) answers k ended
    ends = rw all_taken (turns_end packed p bytes lent_queue (items_of requests) b answers k (omega (arith, y.room, items_length requests)))

    -- ---- what the code leaves

    module _ (b' : Board) (answers' : List ℕ) (left : ℕ) (fold : stage b' answers' left ≡ ended) (word : ℕ) (zero : word ≡ 0) where
      abbrev now : Ends packed p bytes lent_queue b (items_of requests) answers k (stage b' answers' left)
      now = rw fold ends

      with_answers : (v v' : Board) → flat_outcome (packed (step_outcome p b (limited k call)).answer) [] (step_outcome p b (limited k call)).board ≡ flat_outcome 0 [] v → v' ≡ v
          → flat_outcome word answers' v' ≡ by_step
      with_answers v v' g same =
          rw (zero, now.answers, same, work_is) (ap (λ (o : FlatOutcome). flat_outcome o.word (over (map packed (answers_in (finished k work.parts))) answers) o.left) (sym g))

      -- something is left
      pub kept_done : (left ≡ 0 → ⊥) → flat_outcome word answers' b' ≡ flat_cut p b k requests bytes answers
      unfolding flat_cut
      kept_done some = rw (three p b requests bytes answers z) (with_answers _ b' (step_whole (now.many some)) (now.board some))

      -- or nothing is, and the tables are lost
      pub lost_done : left ≡ 0 → Long b answers b' answers' → (ct bt fst bst marks stamps : List ℕ)
          → Lost b'.ct b'.bt b'.fst b'.bst b'.marks b'.stamps ct bt fst bst marks stamps
          → flat_outcome word answers' (board_of b'.chip ct bt fst bst b'.wear marks stamps) ≡ flat_cut p b k requests bytes answers
      unfolding flat_cut
      lost_done spent long ct bt fst bst marks stamps lost =
          rw (three p b requests bytes answers z)
          (with_answers _ _ (step_short (now.few spent))
          (lost_board p b (take k ops) b'.chip b'.wear _ _ _ _ _ _ ct bt fst bst marks stamps fit lost (now.chip spent) (now.wear spent)))
        where
          fit : Lengths p b'.ct b'.bt b'.fst b'.bst b'.marks b'.stamps
          fit =
              let l = lengths_in p b y.ready.lengths in
              record {
                ct_length = long.ct ∙ l.ct_length;
                bt_length = long.bt ∙ l.bt_length;
                fst_length = long.fst ∙ l.fst_length;
                bst_length = long.bst ∙ l.bst_length;
                marks_length = long.marks ∙ l.marks_length;
                stamps_length = long.stamps ∙ l.stamps_length;
              }

-- two outcomes that a queue with a budget is claimed to have are one
pub cut_once : (p : Params) (b : Board) (k : ℕ) (requests bytes answers : List ℕ) (o o' : FlatOutcome)
    → o ≡ flat_cut p b k requests bytes answers → o' ≡ flat_cut p b k requests bytes answers → o ≡ o'
cut_once p b k requests bytes answers o o' e e' = e ∙ sym e'
