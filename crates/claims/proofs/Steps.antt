-- One call that is no queue, as a step of a run: its one part, the board that it leaves and the operations that it makes, by its reply.
-- Assumes nothing.
use mathlib.Core.Path.{◌≡◌, refl, ap, ◌∙◌}
use mathlib.Core.Logic.{◌⊎◌, inl, inr}
use Prim.Native.Nat.{ℕ}
use mathlib.Core.Bool.{false}
use mathlib.Core.List.{List, [], ◌∷◌, ◌++◌, append-nil}
use Rattle.rules.specs.declared.Params.{Params}
use Rattle.rules.specs.declared.Reply.TheVariants.{Accepted}
use Rattle.rules.specs.declared.Answer.{Answer}
use Rattle.rules.specs.Tables.{Board}
use Rattle.rules.specs.Regions.{looks_at}
use Rattle.rules.specs.Traces.{Op}
use Rattle.rules.specs.Requests.{Call, Request, format, queue, read, release, request_cluster, start, write}
use Rattle.rules.specs.Format.{format_ops, formatted}
use Rattle.rules.specs.Write.{write_ops, written}
use Rattle.rules.specs.Release.{released}
use Rattle.rules.specs.Start.{start_ops, started}
use Rattle.rules.specs.Replies.{is_accepted, reply_of}
use Rattle.rules.specs.Calls.{Part, Work, does, ops_of, outcome_of, read_bytes, refuses, single, work_of, write_work}
use Rattle.rules.proofs.Outcomes.{reply_cases, work_accepted, work_refused}
use Rattle.claims.proofs.PlainRuns.{ops_append, plain_leaves, plain_parts, plain_trace}
use Rattle.claims.proofs.Singles.{Single, refused_leaves}

-- ---- a work of one part

-- what an accepted call that is no queue makes, looks at and leaves
unfoldable pub done_ops : Params → Board → Call → List Op
done_ops p b format = format_ops p b.chip b.wear
done_ops p b (read q) = []
done_ops p b (write q) = write_ops p b q
done_ops p b (release c) = []
done_ops p b (queue l) = []
done_ops p b start = start_ops p b.chip b.wear

unfoldable pub done_bytes : Params → Board → Call → List ℕ
done_bytes p b format = []
done_bytes p b (read q) = read_bytes p b q
done_bytes p b (write q) = q.bytes
done_bytes p b (release c) = []
done_bytes p b (queue l) = []
done_bytes p b start = []

unfoldable pub done_board : Params → Board → Call → Board
done_board p b format = formatted p b
done_board p b (read q) = b
done_board p b (write q) = written p b q
done_board p b (release c) = released p b c
done_board p b (queue l) = b
done_board p b start = started p b

done_looks : Params → Board → Call → ℕ
done_looks p b format = 0
done_looks p b (read q) = looks_at p b (request_cluster p q)
done_looks p b (write q) = looks_at p b (request_cluster p q)
done_looks p b (release c) = 0
done_looks p b (queue l) = 0
done_looks p b start = 0

is_done : (p : Params) (b : Board) (c : Call) → Single c → work_of p b c ≡ does p b c (done_ops p b c) (done_looks p b c) (done_bytes p b c) (done_board p b c)
unfolding work_of write_work done_ops done_looks done_bytes done_board
is_done p b format s = refl
is_done p b (read q) s = refl
is_done p b (write q) s = refl
is_done p b (release c) s = refl
is_done p b (queue l) s = absurd s
is_done p b start s = refl

-- its one part
unfoldable pub ops_by : Params → Board → Call → List Op
ops_by p b c = ops_of (work_of p b c).parts

unfoldable pub part_of : Params → Board → Call → Part
part_of p b c = record { asks = c; answer = (outcome_of p b c).answer; bytes = (outcome_of p b c).bytes; ops = ops_by p b c }

one_part : (p : Params) (b : Board) (c : Call) (a : Answer) (bytes : List ℕ) (ops : List Op) (b' : Board) → work_of p b c ≡ single c a bytes ops b' → (work_of p b c).parts ≡ part_of p b c ∷ []
unfolding single part_of ops_by ops_of outcome_of
one_part p b c a bytes ops b' e = rw (e, append-nil ops)

pub its_part : (p : Params) (b : Board) (c : Call) → Single c → (work_of p b c).parts ≡ part_of p b c ∷ []
unfolding refuses
its_part p b c s = go (reply_cases (reply_of p b c))
  where
    go : (reply_of p b c ≡ Accepted) ⊎ (is_accepted (reply_of p b c) ≡ false) → (work_of p b c).parts ≡ part_of p b c ∷ []
    go (inl e) = one_part p b c _ _ _ _ (is_done p b c s ∙ work_accepted p b c _ _ _ _ e)
    go (inr e) = one_part p b c _ _ _ _ (is_done p b c s ∙ work_refused p b c _ _ _ _ e)

-- ---- the parts and the trace of a run, a call more

pub parts_step : (p : Params) (b : Board) (c : Call) (cs : List Call) → Single c → plain_parts p b (c ∷ cs) ≡ part_of p b c ∷ plain_parts p (plain_leaves p b c) cs
unfolding plain_parts
parts_step p b c cs s = rw (its_part p b c s)

pub trace_step : (p : Params) (b : Board) (c : Call) (cs : List Call) → plain_trace p b (c ∷ cs) ≡ ops_by p b c ++ plain_trace p (plain_leaves p b c) cs
unfolding plain_trace plain_parts ops_by
trace_step p b c cs = ops_append (work_of p b c).parts (plain_parts p (plain_leaves p b c) cs)

-- ---- what a call leaves and does, by its reply

pub accepted_ops : (p : Params) (b : Board) (c : Call) → Single c → reply_of p b c ≡ Accepted → ops_by p b c ≡ done_ops p b c
unfolding ops_by single ops_of
accepted_ops p b c s e = rw (is_done p b c s, work_accepted p b c (done_ops p b c) (done_looks p b c) (done_bytes p b c) (done_board p b c) e) (append-nil (done_ops p b c))

pub refused_ops : (p : Params) (b : Board) (c : Call) → Single c → is_accepted (reply_of p b c) ≡ false → ops_by p b c ≡ []
unfolding ops_by single refuses ops_of
refused_ops p b c s e = rw (is_done p b c s, work_refused p b c (done_ops p b c) (done_looks p b c) (done_bytes p b c) (done_board p b c) e)

pub done_bytes_lem : (p : Params) (b : Board) (c : Call) → Single c → reply_of p b c ≡ Accepted → ((work_of p b c).bytes ≡ done_bytes p b c) × ((work_of p b c).answers ≡ [])
unfolding single
done_bytes_lem p b c s e = rw (is_done p b c s, work_accepted p b c (done_ops p b c) (done_looks p b c) (done_bytes p b c) (done_board p b c) e) (refl, refl)

pub accepted_leaves : (p : Params) (b : Board) (c : Call) → Single c → reply_of p b c ≡ Accepted → plain_leaves p b c ≡ done_board p b c
unfolding plain_leaves outcome_of single
accepted_leaves p b c s e = ap (λ (w : Work). w.left) (is_done p b c s ∙ work_accepted p b c (done_ops p b c) (done_looks p b c) (done_bytes p b c) (done_board p b c) e)

pub format_leaves : (p : Params) (b : Board) → reply_of p b format ≡ Accepted → plain_leaves p b format ≡ formatted p b
unfolding done_board
format_leaves p b e = accepted_leaves p b format tt e

pub read_leaves : (p : Params) (b : Board) (q : Request) → plain_leaves p b (read q) ≡ b
unfolding done_board
read_leaves p b q = go (reply_cases (reply_of p b (read q)))
  where
    go : (reply_of p b (read q) ≡ Accepted) ⊎ (is_accepted (reply_of p b (read q)) ≡ false) → plain_leaves p b (read q) ≡ b
    go (inl e) = accepted_leaves p b (read q) tt e
    go (inr e) = refused_leaves p b (read q) e

pub write_leaves : (p : Params) (b : Board) (q : Request) → reply_of p b (write q) ≡ Accepted → plain_leaves p b (write q) ≡ written p b q
unfolding done_board
write_leaves p b q e = accepted_leaves p b (write q) tt e

pub release_leaves : (p : Params) (b : Board) (c : ℕ) → reply_of p b (release c) ≡ Accepted → plain_leaves p b (release c) ≡ released p b c
unfolding done_board
release_leaves p b c e = accepted_leaves p b (release c) tt e

pub start_leaves : (p : Params) (b : Board) → reply_of p b start ≡ Accepted → plain_leaves p b start ≡ started p b
unfolding done_board
start_leaves p b e = accepted_leaves p b start tt e
