-- A queue that answers 0 is the run of its single writes. So the parts of any run, and the board that it leaves, are those of a run of single calls.
-- Assumes nothing.
use mathlib.Core.Path.{◌≡◌, refl, sym, ap, ap₂, ◌∙◌}
use mathlib.Core.Logic.{◌⊎◌, inl, inr}
use mathlib.Core.Bool.{true, false, not, ◌&&◌, cond}
use mathlib.Core.List.{List, [], ◌∷◌, ◌++◌, append_assoc, append-nil, map}
use Rattle.lists.proofs.Tests.{and_intro, and_left, and_right}
use Rattle.rules.specs.declared.Params.{Params}
use Rattle.rules.specs.declared.Reply.TheVariants.{Accepted}
use Rattle.rules.specs.Tables.{Board}
use Rattle.rules.specs.Requests.{Call, Queue, Request, format, item_requests, queue, read, release, start, write}
use Rattle.rules.specs.Replies.{is_accepted, reply_of}
use Rattle.rules.specs.Calls.{Outcome, Part, outcome_of, queue_work, work_of, write_all, write_work}
use Rattle.rules.specs.Cuts.{plain}
use Rattle.rules.proofs.Outcomes.{call_refused, queue_accepted, reply_cases}
use Rattle.claims.specs.Runs.{board_after, parts_of, resets}
use Rattle.claims.specs.Requests.{QueueAsSingles, writes_of}
use Rattle.claims.proofs.PlainRuns.{plain_calls, plain_uncut, plain_board, plain_leaves, plain_parts, plain_undisturbed, plain_writes, uncut_board, uncut_parts}

-- ---- a queue

module _ (p : Params) (l : Queue) where
  all_parts : (b : Board) (qs : List Request) → (write_all p b qs l).parts ≡ plain_parts p b (map write qs)
  unfolding write_all plain_parts plain_leaves outcome_of work_of
  all_parts b [] = refl
  all_parts b (q ∷ qs) = rw (all_parts (write_work p b q).left qs)

  all_left : (b : Board) (qs : List Request) → (write_all p b qs l).left ≡ plain_board p b (map write qs)
  unfolding write_all plain_board plain_leaves outcome_of work_of
  all_left b [] = refl
  all_left b (q ∷ qs) = all_left (write_work p b q).left qs

module _ (p : Params) (b : Board) (l : Queue) (e : reply_of p b (queue l) ≡ Accepted) where
  pub queue_parts : (work_of p b (queue l)).parts ≡ plain_parts p b (plain_writes p l)
  unfolding plain_writes
  queue_parts = rw (queue_accepted p b l e) (all_parts p l b (item_requests p l.bytes l.items))

  pub queue_board : (work_of p b (queue l)).left ≡ plain_board p b (plain_writes p l)
  unfolding plain_writes
  queue_board = rw (queue_accepted p b l e) (all_left p l b (item_requests p l.bytes l.items))

-- as steps without budgets
steps_parts : (p : Params) (b : Board) (cs : List Call) → parts_of p b (map plain cs) ≡ plain_parts p b cs
steps_parts p b cs = uncut_parts p b (map plain cs) (plain_uncut p b cs) ∙ ap (plain_parts p b) (plain_calls cs)

steps_board : (p : Params) (b : Board) (cs : List Call) → board_after p b (map plain cs) ≡ plain_board p b cs
steps_board p b cs = uncut_board p b (map plain cs) (plain_uncut p b cs) ∙ ap (plain_board p b) (plain_calls cs)

pub queue_as_singles : QueueAsSingles
unfolding writes_of plain_writes
queue_as_singles p b l e =
    let ws = map write (item_requests p l.bytes l.items) in
    record { parts = queue_parts p b l e ∙ sym (steps_parts p b ws); board = queue_board p b l e ∙ sym (steps_board p b ws) }

-- ---- the single calls of a run

-- a call that is no queue
abbrev pub Single : Call → Type 0
Single format = Unit {0}
Single (read q) = Unit {0}
Single (write q) = Unit {0}
Single (release c) = Unit {0}
Single (queue l) = ⊥
Single start = Unit {0}

abbrev pub AllSingle : List Call → Type 0
AllSingle [] = Unit {0}
AllSingle (c ∷ cs) = Single c × AllSingle cs

-- itself, or the writes of its items, if it answers 0
unfoldable pub singles : Params → Board → Call → List Call
singles p b format = format ∷ []
singles p b (read q) = read q ∷ []
singles p b (write q) = write q ∷ []
singles p b (release c) = release c ∷ []
singles p b start = start ∷ []
singles p b (queue l) = cond (is_accepted (reply_of p b (queue l))) (plain_writes p l) []

unfoldable pub singles_of : Params → Board → List Call → List Call
singles_of p b [] = []
singles_of p b (c ∷ cs) = singles p b c ++ singles_of p (plain_leaves p b c) cs

-- ---- runs one after the other

pub parts_append : (p : Params) (b : Board) (xs ys : List Call) → plain_parts p b (xs ++ ys) ≡ plain_parts p b xs ++ plain_parts p (plain_board p b xs) ys
unfolding plain_parts plain_board
parts_append p b [] ys = refl
parts_append p b (c ∷ xs) ys = rw (parts_append p (plain_leaves p b c) xs ys) (sym (append_assoc (work_of p b c).parts (plain_parts p (plain_leaves p b c) xs) _))

board_append : (p : Params) (b : Board) (xs ys : List Call) → plain_board p b (xs ++ ys) ≡ plain_board p (plain_board p b xs) ys
unfolding plain_board
board_append p b [] ys = refl
board_append p b (c ∷ xs) ys = board_append p (plain_leaves p b c) xs ys

-- ---- one call as its single calls

-- a refused call leaves the board as it was
pub refused_leaves : (p : Params) (b : Board) (c : Call) → is_accepted (reply_of p b c) ≡ false → plain_leaves p b c ≡ b
unfolding plain_leaves
refused_leaves p b c e = ap (λ (o : Outcome). o.board) (call_refused p b c e)

one_parts : (p : Params) (b : Board) (c : Call) → (work_of p b c).parts ≡ plain_parts p b (singles p b c)
unfolding plain_parts singles
one_parts p b format = sym (append-nil _)
one_parts p b (read q) = sym (append-nil _)
one_parts p b (write q) = sym (append-nil _)
one_parts p b (release c) = sym (append-nil _)
one_parts p b start = sym (append-nil _)
one_parts p b (queue l) = go (reply_cases (reply_of p b (queue l)))
  where
    go : (reply_of p b (queue l) ≡ Accepted) ⊎ (is_accepted (reply_of p b (queue l)) ≡ false) → (work_of p b (queue l)).parts ≡ plain_parts p b (cond (is_accepted (reply_of p b (queue l))) (plain_writes p l) [])
    go (inl e) = queue_parts p b l e ∙ rw e (unfold is_accepted in refl)
    go (inr e) = unfold work_of queue_work in rw e

pub one_board : (p : Params) (b : Board) (c : Call) → plain_leaves p b c ≡ plain_board p b (singles p b c)
unfolding plain_board singles plain_leaves outcome_of
one_board p b format = refl
one_board p b (read q) = refl
one_board p b (write q) = refl
one_board p b (release c) = refl
one_board p b start = refl
one_board p b (queue l) = go (reply_cases (reply_of p b (queue l)))
  where
    go : (reply_of p b (queue l) ≡ Accepted) ⊎ (is_accepted (reply_of p b (queue l)) ≡ false) → plain_leaves p b (queue l) ≡ plain_board p b (cond (is_accepted (reply_of p b (queue l))) (plain_writes p l) [])
    go (inl e) = queue_board p b l e ∙ rw e (unfold is_accepted in refl)
    go (inr e) = refused_leaves p b (queue l) e ∙ rw e

-- ---- a run as its single calls

pub parts_same : (p : Params) (b : Board) (run : List Call) → plain_parts p b run ≡ plain_parts p b (singles_of p b run)
unfolding singles_of plain_parts
parts_same p b [] = refl
parts_same p b (c ∷ cs) =
    ap₂ {C = List Part} (λ x y. x ++ y) (one_parts p b c) (parts_same p (plain_leaves p b c) cs)
    ∙ ap (λ (x : Board). plain_parts p b (singles p b c) ++ plain_parts p x (singles_of p (plain_leaves p b c) cs)) (one_board p b c)
    ∙ sym (parts_append p b (singles p b c) (singles_of p (plain_leaves p b c) cs))

pub board_same : (p : Params) (b : Board) (run : List Call) → plain_board p b run ≡ plain_board p b (singles_of p b run)
unfolding singles_of plain_board
board_same p b [] = refl
board_same p b (c ∷ cs) =
    board_same p (plain_leaves p b c) cs
    ∙ ap (λ (x : Board). plain_board p x (singles_of p (plain_leaves p b c) cs)) (one_board p b c)
    ∙ sym (board_append p b (singles p b c) (singles_of p (plain_leaves p b c) cs))

-- ---- what they are

single_append : (xs ys : List Call) → AllSingle xs → AllSingle ys → AllSingle (xs ++ ys)
single_append [] ys h k = k
single_append (c ∷ xs) ys h k = (h.0, single_append xs ys h.1 k)

writes_single : (qs : List Request) → AllSingle (map write qs)
writes_single [] = tt
writes_single (q ∷ qs) = (tt, writes_single qs)

one_single : (p : Params) (b : Board) (c : Call) → AllSingle (singles p b c)
unfolding singles
one_single p b format = (tt, tt)
one_single p b (read q) = (tt, tt)
one_single p b (write q) = (tt, tt)
one_single p b (release c) = (tt, tt)
one_single p b start = (tt, tt)
one_single p b (queue l) = go (reply_cases (reply_of p b (queue l)))
  where
    go : (reply_of p b (queue l) ≡ Accepted) ⊎ (is_accepted (reply_of p b (queue l)) ≡ false) → AllSingle (cond (is_accepted (reply_of p b (queue l))) (plain_writes p l) [])
    go (inl e) = rw e (unfold is_accepted plain_writes in writes_single (item_requests p l.bytes l.items))
    go (inr e) = rw e tt

pub all_single : (p : Params) (b : Board) (run : List Call) → AllSingle (singles_of p b run)
unfolding singles_of
all_single p b [] = tt
all_single p b (c ∷ cs) = single_append (singles p b c) (singles_of p (plain_leaves p b c) cs) (one_single p b c) (all_single p (plain_leaves p b c) cs)

-- no format and no start among them
undisturbed_append : (xs ys : List Call) → plain_undisturbed xs ≡ true → plain_undisturbed ys ≡ true → plain_undisturbed (xs ++ ys) ≡ true
unfolding plain_undisturbed
undisturbed_append [] ys h k = k
undisturbed_append (c ∷ xs) ys h k = and_intro (and_left (not (resets c)) _ h) (undisturbed_append xs ys (and_right (not (resets c)) h) k)

writes_undisturbed : (qs : List Request) → plain_undisturbed (map write qs) ≡ true
unfolding plain_undisturbed resets
writes_undisturbed [] = refl
writes_undisturbed (q ∷ qs) = writes_undisturbed qs

one_undisturbed : (p : Params) (b : Board) (c : Call) → not (resets c) ≡ true → plain_undisturbed (singles p b c) ≡ true
unfolding singles plain_undisturbed resets
one_undisturbed p b format h = h
one_undisturbed p b (read q) h = refl
one_undisturbed p b (write q) h = refl
one_undisturbed p b (release c) h = refl
one_undisturbed p b start h = h
one_undisturbed p b (queue l) h = go (reply_cases (reply_of p b (queue l)))
  where
    go : (reply_of p b (queue l) ≡ Accepted) ⊎ (is_accepted (reply_of p b (queue l)) ≡ false) → plain_undisturbed (cond (is_accepted (reply_of p b (queue l))) (plain_writes p l) []) ≡ true
    go (inl e) = rw e (unfold is_accepted plain_writes in writes_undisturbed (item_requests p l.bytes l.items))
    go (inr e) = rw e

pub still_undisturbed : (p : Params) (b : Board) (run : List Call) → plain_undisturbed run ≡ true → plain_undisturbed (singles_of p b run) ≡ true
unfolding singles_of
still_undisturbed p b [] h = h
still_undisturbed p b (c ∷ cs) h =
    let k : not (resets c) && plain_undisturbed cs ≡ true = unfold plain_undisturbed in h in
    undisturbed_append (singles p b c) (singles_of p (plain_leaves p b c) cs) (one_undisturbed p b c (and_left (not (resets c)) _ k)) (still_undisturbed p (plain_leaves p b c) cs (and_right (not (resets c)) k))
