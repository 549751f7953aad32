-- Condition 1: the reply is the table's, a refusal changes nothing, an accepted call leaves order, and each does what it says.
-- Assumes nothing.
use mathlib.Core.Path.{◌≡◌, refl, sym, ap, ◌∙◌}
use Prim.Native.Nat.{ℕ, suc, ◌<◌}
use native.Mathlib.Nat.{mod-lt}
use mathlib.Core.Logic.{◌⊎◌, inl, inr}
use mathlib.Core.Bool.{true, false, not, false≢true}
use mathlib.Core.List.{List, [], ◌∷◌}
use lib.ListN.{length, drop}
use Rattle.rules.specs.declared.Params.{Params}
use Rattle.rules.specs.declared.Answer.{Answer}
use Rattle.rules.specs.declared.Item.{Item}
use borrow.Author.Tests.{not-false, not-true}
use Rattle.lists.proofs.Tests.{and_left, and_right, never}
use Rattle.rules.specs.declared.Reply.TheVariants.{Accepted, NoBlockLeft}
use Rattle.rules.specs.Numbers.{region_of}
use Rattle.rules.specs.Tables.{Board, bst_at, ct_at, none}
use Rattle.rules.specs.Orderly.{enough}
use Rattle.rules.specs.Regions.{view}
use Rattle.rules.specs.Traces.{erases_in, programs_in}
use Rattle.rules.specs.Requests.{Call, Queue, Request, format, item_requests, lent, lent_answers, queue, read, release, request_cluster, request_region, start, write}
use Rattle.rules.specs.Write.{Plan, continues, opens, plan_block, plan_of, reclaims, takes_block}
use Rattle.rules.specs.Release.{released}
use Rattle.rules.specs.Replies.{OrderlyBoard, access_rows, bad_address, bad_count, bad_parameter, block_row, early_rows, is_accepted, lent_rows, no_block_left, not_orderly, order_row, reply_of, row, rows_of, wrong_data, wrong_length}
use Rattle.rules.specs.Calls.{Work, answer_of, answers_in, outcome_of, over, work_of, write_all, write_work}
use Rattle.rules.specs.Cuts.{limited, step_outcome}
use Rattle.rules.proofs.Admitted.{admitted, release_admitted, write_checks, write_free}
use Rattle.rules.proofs.Continues.{Makes}
use Rattle.rules.proofs.Counts.{format_counts, start_counts}
use Rattle.rules.proofs.FormatPromise.{format_enough}
use Rattle.rules.proofs.Outcomes.{format_accepted, all_answer, all_bytes, all_lent, call_refused, is_refused, queue_accepted, read_accepted, release_accepted, reply_cases, reply_is, start_accepted, write_accepted}
use Rattle.rules.proofs.RegionFacts.{neat}
use Rattle.rules.proofs.Releases.{entry_none, release_same}
use Rattle.rules.proofs.Sizes.{sizes}
use Rattle.rules.proofs.TableFacts.{marks_in_lem, tables_in}
use Rattle.rules.proofs.Totals.{blocks_total, used_total}
use Rattle.rules.proofs.Views.{HasFree}
use Rattle.rules.proofs.WritePromise.{makes, write_promise}
use Rattle.starts.proofs.Again.{same_but}
use Rattle.starts.proofs.StartTables.{swept}
use Rattle.claims.specs.Runs.{sector_at}
use Rattle.claims.proofs.PlainRuns.{plain_board, plain_leaves}
use Rattle.claims.specs.Conditions.{Condition1, Formats, Frees, InOrder, Reads, Serves, Starts, Unchanged, WithBudget, Writes, assigned_blocks, blocks_of, none_applies}
use Rattle.claims.proofs.Budgets.{cuts, fewer_uncut, no_budget, refused_uncut, unspent_same}
use Rattle.claims.proofs.Kept.{accepted_orderly, after_orderly, enough_found}
use Rattle.claims.proofs.Memory.{freed, read_agrees, stored}
use Rattle.claims.proofs.Freed.{none_copied}
use Rattle.claims.proofs.ReplyTable.{reply_by_table}
use Rattle.claims.proofs.Stamps.{format_stamp, write_stamps}
use Rattle.claims.proofs.Singles.{Single}
use Rattle.starts.proofs.Accepted.{start_admitted, start_again}
use Rattle.claims.proofs.Steps.{its_part, part_of}

-- ---- a refusal

refused_unchanged : (p : Params) (b : Board) (c : Call) → is_accepted (reply_of p b c) ≡ false → Unchanged b c (outcome_of p b c)
unfolding answer_of programs_in erases_in
refused_unchanged p b c e = rw (call_refused p b c e) (record { board = refl; bytes = refl; answers = refl; counts = (refl, refl, refl) })

-- ---- what a call leaves

pub in_order : (p : Params) (b : Board) → OrderlyBoard p b → InOrder p b
unfolding blocks_of assigned_blocks
in_order p b h =
    let z = sizes p h.fine in
    let t = tables_in p b h.lengths h.tidy in
    record { state = h; all = blocks_total p z b t; used = used_total p z b t }

-- on an orderly state
kept_orderly : (p : Params) (b : Board) (c : Call) → OrderlyBoard p b → OrderlyBoard p (plain_leaves p b c)
unfolding plain_board
kept_orderly p b c h = after_orderly p b (c ∷ []) h

-- a call that is no queue
no_queue : (c : Call) → ((l : Queue) → c ≡ queue l → ⊥) → Single c
no_queue format n = tt
no_queue (read q) n = tt
no_queue (write q) n = tt
no_queue (release c) n = tt
no_queue (queue l) n = n l refl
no_queue start n = tt

-- ---- room for a write

takes_free : (p : Params) (b : Board) (r : ℕ) (pl : Plan) → HasFree p b → takes_block pl ≡ true → (plan_block p b r pl < p.N) × (bst_at b.bst (plan_block p b r pl) ≡ 0)
unfolding takes_block plan_block
takes_free p b r (continues v f) w e = absurd (false≢true e)
takes_free p b r (opens v) w e = w
takes_free p b r (reclaims v) w e = w

write_writes : (p : Params) (b : Board) (q : Request) → reply_of p b (write q) ≡ Accepted
    → Writes p b q (request_region p q) (plan_of p (view p b (request_region p q))) (outcome_of p b (write q))
unfolding answer_of
write_writes p b q e =
    let a = admitted p b q (write_checks p b q e) in
    let r = region_of p (request_cluster p q) in
    let low : r < p.mu = mod-lt (request_cluster p q) a.sized.regions in
    let m : Makes p b r (plan_of p (view p b r)) = makes p a.sized b a.tables r low (neat p r (view p b r) (a.tidy r low)) (write_free p b q e) in
    let w = write_promise p b q e in
    rw (write_accepted p b q e)
    (record {
      block = λ t. takes_free p b r (plan_of p (view p b r)) (write_free p b q e t) t;
      frame = m.base.ready.low;
      stores = stored p b q e;
      programs = w.programs;
      most = w.bounded.0;
      erases = w.erases;
      looks = refl;
      stamps = write_stamps p b q a.tables.stamps_length;
    })

-- ---- want of room

-- a write past its early rows finds an orderly state
none_orderly : (p : Params) (b : Board) (q : Request) → none_applies (early_rows p b q) ≡ true → OrderlyBoard p b
unfolding none_applies early_rows lent_rows access_rows order_row bad_parameter wrong_length not_orderly
none_orderly p b q h =
    let l = and_right (not (bad_parameter p)) h in
    let c = and_right (not (wrong_length p b)) l in
    let i = and_right (not (bad_count p q)) c in
    let d = and_right (not (bad_address p q.lba)) i in
    let o = and_right (not (wrong_data p q)) d in
    record {
      fine = not-false _ (not-true _ (and_left (not (bad_parameter p)) _ h));
      lengths = not-false _ (not-true _ (and_left (not (wrong_length p b)) _ l));
      tidy = not-false _ (not-true _ (and_left (not (not_orderly p b)) _ o));
    }

-- one that gets 10 has passed them, and its row applies
pub row_ten : (p : Params) (b : Board) (q : Request) → reply_of p b (write q) ≡ NoBlockLeft → OrderlyBoard p b × (no_block_left p b (request_region p q) ≡ true)
unfolding rows_of block_row
row_ten p b q e =
    let w = ((reply_by_table p b (write q)).listed (early_rows p b q) [] (row (no_block_left p b (request_region p q)) NoBlockLeft) refl).0 e in
    (none_orderly p b q w.0, w.1)

-- so while at least μγ+1 blocks are not reserved none does
never_full_lem : (p : Params) (b : Board) (q : Request) → enough p b ≡ true → reply_of p b (write q) ≡ NoBlockLeft → ⊥
never_full_lem p b q room e = let w = row_ten p b q e in never w.1 (enough_found p b w.0 room (request_region p q))

-- ---- the others

format_formats : (p : Params) (b : Board) → reply_of p b format ≡ Accepted → Formats p b (outcome_of p b format)
format_formats p b e =
    let k = format_counts p b e in
    record {
      programs = ap (λ (a : Answer). a.programs) k;
      erases = ap (λ (a : Answer). a.erases) k;
      looks = ap (λ (a : Answer). a.looks) k;
      stamps = λ r h. rw (format_accepted p b e) (format_stamp p b r);
      room = rw (format_accepted p b e) (format_enough p b e);
    }

read_reads : (p : Params) (b : Board) (q : Request) → reply_of p b (read q) ≡ Accepted → Reads p b q (outcome_of p b (read q))
unfolding answer_of programs_in erases_in
read_reads p b q e = rw (read_accepted p b q e) (record { board = refl; bytes = read_agrees p b (sector_at p b) q e (λ a h. refl); programs = refl; erases = refl; looks = refl })

release_frees : (p : Params) (b : Board) (c : ℕ) → reply_of p b (release c) ≡ Accepted → Frees p b c (outcome_of p b (release c))
unfolding answer_of programs_in erases_in
release_frees p b c e =
    let a = release_admitted p b c e in
    let gone : ct_at (released p b c).ct c ≡ none = unfold released in entry_none b.ct c in
    rw (release_accepted p b c e)
    (record {
      reads = freed p b c;
      room = λ v. none_copied p (released p b c) a.fine c gone (region_of p c) v;
      entry = gone;
      stamps = unfold released in refl;
      already = λ n. release_same p b c (marks_in_lem p b a.lengths a.tidy) n;
      counts = (refl, refl, refl);
    })

-- ---- a start

start_starts : (p : Params) (b : Board) → reply_of p b start ≡ Accepted → Starts p b (outcome_of p b start)
unfolding answer_of
start_starts p b e =
    let a = start_admitted p b e in
    let k = start_counts p b.chip b.wear in
    rw (start_accepted p b e)
    (record {
      programs = k.0;
      erases = k.1;
      looks = refl;
      others = (swept p b a).kept;
      again = start_again p b a;
      wear = λ b'' same e''. rw (start_accepted p b'' e'') (same_but p b b'' a (start_admitted p b'' e'') (sym same));
    })

-- ---- a queue

-- an answer for each item
answers_length : (p : Params) (l : Queue) (b : Board) (qs : List Request) → length (answers_in (write_all p b qs l).parts) ≡ length qs
unfolding write_all answers_in work_of
answers_length p l b [] = refl
answers_length p l b (q ∷ qs) = let one : (write_work p b q).parts ≡ part_of p b (write q) ∷ [] = its_part p b (write q) tt in rw one (ap suc (answers_length p l (write_work p b q).left qs))

over_length : (xs ys : List Answer) → length (over xs ys) ≡ length ys
unfolding over
over_length [] ys = refl
over_length (x ∷ xs) [] = refl
over_length (x ∷ xs) (y ∷ ys) = ap suc (over_length xs ys)

over_past : (xs ys : List Answer) → drop (length xs) (over xs ys) ≡ drop (length xs) ys
unfolding over
over_past [] ys = refl
over_past (x ∷ xs) [] = refl
over_past (x ∷ xs) (y ∷ ys) = over_past xs ys

map_length : (p : Params) (bytes : List ℕ) (items : List Item) → length (item_requests p bytes items) ≡ length items
unfolding item_requests
map_length p bytes [] = refl
map_length p bytes (it ∷ items) = ap suc (map_length p bytes items)

module _ (p : Params) (b : Board) (l : Queue) where
  -- what the items do
  abbrev served : Work
  served = write_all p b (item_requests p l.bytes l.items) l

  many : length (answers_in served.parts) ≡ length l.items
  many = answers_length p l b (item_requests p l.bytes l.items) ∙ map_length p l.bytes l.items

  is_served : reply_of p b (queue l) ≡ Accepted
      → outcome_of p b (queue l) ≡ record { answer = answer_of Accepted [] 0; bytes = l.bytes; answers = over (answers_in served.parts) l.answers; board = served.left }
  unfolding outcome_of
  is_served e =
      let qs = item_requests p l.bytes l.items in
      rw (queue_accepted p b l e, all_answer p b qs l, all_bytes p b qs l, all_lent p b qs l)

  queue_serves : Serves l (outcome_of p b (queue l))
  queue_serves = go (reply_cases (reply_of p b (queue l)))
    where
      go : (reply_of p b (queue l) ≡ Accepted) ⊎ (is_accepted (reply_of p b (queue l)) ≡ false) → Serves l (outcome_of p b (queue l))
      go (inl e) =
          rw (is_served e)
          (record {
            counts = unfold answer_of programs_in erases_in in (refl, refl, refl);
            bytes = refl;
            long = over_length (answers_in served.parts) l.answers;
            past = rw (← many) (over_past (answers_in served.parts) l.answers);
          })
      go (inr e) =
          rw (call_refused p b (queue l) e)
          (record { counts = unfold answer_of programs_in erases_in in (refl, refl, refl); bytes = unfold lent in refl; long = unfold lent_answers in refl; past = unfold lent_answers in refl })

-- ---- a budget

with_budget : (p : Params) (b : Board) (c : Call) (k : ℕ) → WithBudget p b c k (work_of p b c).parts (outcome_of p b c) (step_outcome p b (limited k c))
with_budget p b c k =
    record {
      refused = λ ne.
          let e = is_refused (reply_of p b c) (λ a. ne (reply_is p b c ∙ a)) in
          rw (unspent_same p b k c (refused_uncut p b k c e)) (refused_unchanged p b c e);
      without = λ e. unspent_same p b k c (no_budget p b k c e);
      unspent = λ h. unspent_same p b k c (fewer_uncut p b k c h);
      spent = λ h e few. cuts p b k c h (sym (reply_is p b c) ∙ e) few;
    }

-- ---- the condition

pub condition_1 : Condition1
condition_1 p b c =
    record {
      reply = rw (reply_is p b c) (reply_by_table p b c);
      refused = λ ne. refused_unchanged p b c (is_refused (reply_of p b c) (λ e. ne (reply_is p b c ∙ e)));
      kept = λ h. unfold plain_leaves in in_order p (plain_leaves p b c) (kept_orderly p b c h);
      order = λ e n. unfold plain_leaves in in_order p (plain_leaves p b c) (accepted_orderly p b c (no_queue c n) (sym (reply_is p b c) ∙ e));
      formats = λ is e. rw is (format_formats p b (sym (reply_is p b format) ∙ (rw is at e)));
      reads = λ q is e. rw is (read_reads p b q (sym (reply_is p b (read q)) ∙ (rw is at e)));
      writes = λ q is e. rw is (write_writes p b q (sym (reply_is p b (write q)) ∙ (rw is at e)));
      never_full = λ q is room e. never_full_lem p b q room (sym (reply_is p b (write q)) ∙ (rw is at e));
      frees = λ n is e. rw is (release_frees p b n (sym (reply_is p b (release n)) ∙ (rw is at e)));
      serves = λ l is. rw is (queue_serves p b l);
      starts = λ is e. rw is (start_starts p b (sym (reply_is p b start) ∙ (rw is at e)));
      budget = with_budget p b c;
    }
