-- What a call leaves, by its reply: accepted with its work done, or refused.
-- Assumes nothing.
use mathlib.Core.Path.{◌≡◌, refl, sym, ◌∙◌}
use mathlib.Core.Logic.{◌⊎◌, inl, inr}
use Prim.Native.Nat.{ℕ, ◌<◌}
use native.Mathlib.Omega.{arith}
use mathlib.Core.Bool.{false}
use mathlib.Core.List.{List, [], ◌∷◌}
use borrow.Author.Tests.{eq-eqb}
use Rattle.lists.proofs.Tests.{never}
use Rattle.rules.specs.declared.Params.{Params}
use Rattle.rules.specs.declared.Reply.{Reply}
use Rattle.rules.specs.declared.Reply.TheVariants.{Accepted, BadParameter, WrongLength, BadCount, BadAddress, WrongData, TooFewBlocks, NotOrderly, TooFewAnswers, NoStampLeft, NoBlockLeft}
use Rattle.rules.specs.declared.Answer.{Answer}
use Rattle.rules.specs.Tables.{Board}
use Rattle.rules.specs.Regions.{looks_at}
use Rattle.rules.specs.Traces.{Op}
use Rattle.rules.specs.Requests.{Call, Queue, Request, format, item_requests, lent, lent_answers, queue, read, release, request_cluster, start, write}
use Rattle.rules.specs.Format.{format_ops, formatted}
use Rattle.rules.specs.Write.{write_ops, written}
use Rattle.rules.specs.Release.{released}
use Rattle.rules.specs.Start.{start_ops, started}
use Rattle.rules.specs.Replies.{is_accepted, number_of, reply_of}
use Rattle.rules.specs.Calls.{answer_of, answers_in, does, outcome_of, over, queue_work, read_bytes, refuses, single, work_of, write_all, write_work}

-- ---- replies

-- a call is accepted or refused
pub reply_cases : (r : Reply) → (r ≡ Accepted) ⊎ (is_accepted r ≡ false)
unfolding is_accepted
reply_cases Accepted = inl refl
reply_cases BadParameter = inr refl
reply_cases WrongLength = inr refl
reply_cases BadCount = inr refl
reply_cases BadAddress = inr refl
reply_cases WrongData = inr refl
reply_cases TooFewBlocks = inr refl
reply_cases NotOrderly = inr refl
reply_cases TooFewAnswers = inr refl
reply_cases NoStampLeft = inr refl
reply_cases NoBlockLeft = inr refl

-- it is accepted if its number is 0
pub accepted_by : (r : Reply) (n : ℕ) → n ≡ number_of r → n ≡ 0 → r ≡ Accepted
unfolding is_accepted
accepted_by r n e z = go (reply_cases r)
  where
    go : (r ≡ Accepted) ⊎ (is_accepted r ≡ false) → r ≡ Accepted
    go (inl a) = a
    go (inr f) = absurd (never (eq-eqb (number_of r) 0 (sym e ∙ z)) f)

pub number_low : (r : Reply) → number_of r < 11
number_low Accepted = omega arith
number_low BadParameter = omega arith
number_low WrongLength = omega arith
number_low BadCount = omega arith
number_low BadAddress = omega arith
number_low WrongData = omega arith
number_low TooFewBlocks = omega arith
number_low NotOrderly = omega arith
number_low TooFewAnswers = omega arith
number_low NoStampLeft = omega arith
number_low NoBlockLeft = omega arith

pub is_refused : (r : Reply) → (r ≡ Accepted → ⊥) → is_accepted r ≡ false
is_refused r ne = go (reply_cases r)
  where
    go : (r ≡ Accepted) ⊎ (is_accepted r ≡ false) → is_accepted r ≡ false
    go (inl e) = absurd (ne e)
    go (inr e) = e

-- ---- works

pub work_accepted : (p : Params) (b : Board) (c : Call) (ops : List Op) (looks : ℕ) (bytes : List ℕ) (b' : Board) → reply_of p b c ≡ Accepted
    → does p b c ops looks bytes b' ≡ single c (answer_of Accepted ops looks) bytes ops b'
unfolding does is_accepted
work_accepted p b c ops looks bytes b' e = rw e

pub work_refused : (p : Params) (b : Board) (c : Call) (ops : List Op) (looks : ℕ) (bytes : List ℕ) (b' : Board) → is_accepted (reply_of p b c) ≡ false
    → does p b c ops looks bytes b' ≡ refuses p b c
unfolding does
work_refused p b c ops looks bytes b' e = rw e

-- a queue's own answer, its data and its list, once it is accepted
pub all_answer : (p : Params) (b : Board) (qs : List Request) (l : Queue) → (write_all p b qs l).answer ≡ answer_of Accepted [] 0
unfolding write_all
all_answer p b [] l = refl
all_answer p b (q ∷ qs) l = all_answer p (write_work p b q).left qs l

pub all_bytes : (p : Params) (b : Board) (qs : List Request) (l : Queue) → (write_all p b qs l).bytes ≡ l.bytes
unfolding write_all
all_bytes p b [] l = refl
all_bytes p b (q ∷ qs) l = all_bytes p (write_work p b q).left qs l

pub all_lent : (p : Params) (b : Board) (qs : List Request) (l : Queue) → (write_all p b qs l).answers ≡ l.answers
unfolding write_all
all_lent p b [] l = refl
all_lent p b (q ∷ qs) l = all_lent p (write_work p b q).left qs l

-- ---- outcomes

-- of a call that is no queue: what its one part gets
pub one_outcome : (p : Params) (b : Board) (c : Call) (a : Answer) (bytes : List ℕ) (ops : List Op) (b' : Board) → work_of p b c ≡ single c a bytes ops b'
    → outcome_of p b c ≡ record { answer = a; bytes = bytes; answers = []; board = b' }
unfolding outcome_of single over answers_in
one_outcome p b c a bytes ops b' e = rw e

pub format_accepted : (p : Params) (b : Board) → reply_of p b format ≡ Accepted
    → outcome_of p b format ≡ record { answer = answer_of Accepted (format_ops p b.chip b.wear) 0; bytes = []; answers = []; board = formatted p b }
unfolding work_of
format_accepted p b e = one_outcome p b format _ _ _ _ (work_accepted p b format _ _ _ _ e)

pub read_accepted : (p : Params) (b : Board) (q : Request) → reply_of p b (read q) ≡ Accepted
    → outcome_of p b (read q) ≡ record { answer = answer_of Accepted [] (looks_at p b (request_cluster p q)); bytes = read_bytes p b q; answers = []; board = b }
unfolding work_of
read_accepted p b q e = one_outcome p b (read q) _ _ _ _ (work_accepted p b (read q) _ _ _ _ e)

pub write_accepted : (p : Params) (b : Board) (q : Request) → reply_of p b (write q) ≡ Accepted
    → outcome_of p b (write q) ≡ record { answer = answer_of Accepted (write_ops p b q) (looks_at p b (request_cluster p q)); bytes = q.bytes; answers = []; board = written p b q }
unfolding work_of write_work
write_accepted p b q e = one_outcome p b (write q) _ _ _ _ (work_accepted p b (write q) _ _ _ _ e)

pub release_accepted : (p : Params) (b : Board) (c : ℕ) → reply_of p b (release c) ≡ Accepted
    → outcome_of p b (release c) ≡ record { answer = answer_of Accepted [] 0; bytes = []; answers = []; board = released p b c }
unfolding work_of
release_accepted p b c e = one_outcome p b (release c) _ _ _ _ (work_accepted p b (release c) _ _ _ _ e)

pub start_accepted : (p : Params) (b : Board) → reply_of p b start ≡ Accepted
    → outcome_of p b start ≡ record { answer = answer_of Accepted (start_ops p b.chip b.wear) 0; bytes = []; answers = []; board = started p b }
unfolding work_of
start_accepted p b e = one_outcome p b start _ _ _ _ (work_accepted p b start _ _ _ _ e)

-- a refusal, of any call
pub call_refused : (p : Params) (b : Board) (c : Call) → is_accepted (reply_of p b c) ≡ false
    → outcome_of p b c ≡ record { answer = answer_of (reply_of p b c) [] 0; bytes = lent c; answers = lent_answers c; board = b }
unfolding work_of write_work lent_answers refuses
call_refused p b format e = one_outcome p b format _ _ _ _ (work_refused p b format _ _ _ _ e)
call_refused p b (read q) e = one_outcome p b (read q) _ _ _ _ (work_refused p b (read q) _ _ _ _ e)
call_refused p b (write q) e = one_outcome p b (write q) _ _ _ _ (work_refused p b (write q) _ _ _ _ e)
call_refused p b (release c) e = one_outcome p b (release c) _ _ _ _ (work_refused p b (release c) _ _ _ _ e)
call_refused p b (queue l) e = unfold outcome_of queue_work over answers_in lent in rw e
call_refused p b start e = one_outcome p b start _ _ _ _ (work_refused p b start _ _ _ _ e)

-- a queue that is accepted
pub queue_accepted : (p : Params) (b : Board) (l : Queue) → reply_of p b (queue l) ≡ Accepted → work_of p b (queue l) ≡ write_all p b (item_requests p l.bytes l.items) l
unfolding work_of queue_work is_accepted
queue_accepted p b l e = rw e

-- the reply in an outcome is the table's
pub reply_is : (p : Params) (b : Board) (c : Call) → (outcome_of p b c).answer.reply ≡ reply_of p b c
reply_is p b c = go (reply_cases (reply_of p b c))
  where
    taken : (c : Call) → reply_of p b c ≡ Accepted → (outcome_of p b c).answer.reply ≡ reply_of p b c
    taken format e = rw (format_accepted p b e, e) (unfold answer_of in refl)
    taken (read q) e = rw (read_accepted p b q e, e) (unfold answer_of in refl)
    taken (write q) e = rw (write_accepted p b q e, e) (unfold answer_of in refl)
    taken (release n) e = rw (release_accepted p b n e, e) (unfold answer_of in refl)
    taken start e = rw (start_accepted p b e, e) (unfold answer_of in refl)
    taken (queue l) e =
        unfold outcome_of in rw (queue_accepted p b l e, all_answer p b (item_requests p l.bytes l.items) l, e) (unfold answer_of in refl)

    go : (reply_of p b c ≡ Accepted) ⊎ (is_accepted (reply_of p b c) ≡ false) → (outcome_of p b c).answer.reply ≡ reply_of p b c
    go (inl e) = taken c e
    go (inr e) = rw (call_refused p b c e) (unfold answer_of in refl)
