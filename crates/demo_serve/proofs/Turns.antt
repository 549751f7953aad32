-- A call and the turn that `demo_session` says of its line: the lent bytes are the request's, and a read leaves the board.
-- Assumes nothing.
use mathlib.Core.Path.{ap, refl, sym, ◌∙◌, ◌≡◌}
use mathlib.Core.Logic.{◌⊎◌, inl, inr}
use mathlib.Core.Bool.{false}
use mathlib.Core.List.{List, []}
use Prim.Native.Nat.{min, suc, zero, ◌*◌, ◌/◌, ◌≤◌, ℕ}
use native.Mathlib.Omega.{arith}
use lib.ListN.{length, length-replicate, replicate, take}
use Rattle.rules.specs.declared.Answer.{Answer}
use Rattle.rules.specs.declared.Reply.TheVariants.{Accepted}
use Rattle.cases.specs.BoardT.{board_t, params_t}
use Rattle.rules.specs.Tables.{Board}
use Rattle.rules.specs.Requests.{Request, format, read, request_of, write}
use Rattle.rules.specs.Replies.{is_accepted, reply_of}
use Rattle.rules.specs.Calls.{Outcome, outcome_of}
use Rattle.rules.proofs.Admitted.{asked_in, read_checks}
use Rattle.rules.proofs.Outcomes.{call_refused, read_accepted, reply_cases, reply_is}
use Rattle.rules.proofs.Sizes.{sizes}
use Rattle.outcomes.specs.Claims.{outcome}
use Rattle.demo_lines.specs.declared.Line.TheVariants.{Other, Read, Write}
use Rattle.demo_print.specs.Output.{format_line, read_line, write_line}
use Rattle.demo_session.specs.Session.{requested, turn}
use Rattle.demo_serve.specs.Turned.{Started, started_text, Turned, turned_text}

take_replicate : (n m x : ℕ) → n ≤ m → take n (replicate m x) ≡ replicate n x
take_replicate zero m x h = refl
take_replicate (suc n) zero x h = absurd (omega arith)
take_replicate (suc n) (suc m) x h = rw (take_replicate n m x (omega arith))

-- the bytes that are lent with a call
pub sent : (count x n : ℕ) (l : List ℕ) → n ≡ min count 2 * 16 → l ≡ replicate 32 x → take n l ≡ replicate (min count 2 * 16) x
sent count x n l e k = rw (e, k) (take_replicate (min count 2 * 16) 32 x (omega arith))

-- the line of a write
pub write_turned : (lba count x : ℕ) (b b' : Board) {a : Answer} {bytes : List ℕ} → outcome a bytes [] b' ≡ outcome_of board_t b (write (requested lba count x)) → Turned (Write lba count x) b b'
unfolding turn
write_turned lba count x b b' e = ap (λ (o : Outcome). o.board) e

-- of a read, which leaves the board, refused or not
pub read_turned : (lba count : ℕ) (b : Board) → Turned (Read lba count) b b
unfolding turn
read_turned lba count b = go (reply_cases (reply_of board_t b (read (requested lba count 0))))
  where
    go : (reply_of board_t b (read (requested lba count 0)) ≡ Accepted) ⊎ (is_accepted (reply_of board_t b (read (requested lba count 0))) ≡ false)
        → b ≡ (outcome_of board_t b (read (requested lba count 0))).board
    go (inl e) = sym (ap (λ (o : Outcome). o.board) (read_accepted board_t b (requested lba count 0) e))
    go (inr e) = sym (ap (λ (o : Outcome). o.board) (call_refused board_t b (read (requested lba count 0)) e))

-- and of another form
pub other_turned : (b : Board) → Turned Other b b
unfolding turn
other_turned b = refl

pub started : (b b' : Board) {a : Answer} {bytes : List ℕ} → outcome a bytes [] b' ≡ outcome_of board_t b format → Started b b'
started b b' e = ap (λ (o : Outcome). o.board) e

-- ---- what is printed

pub write_text : (lba count x : ℕ) (b b' : Board) {a : Answer} {bytes : List ℕ} → outcome a bytes [] b' ≡ outcome_of board_t b (write (requested lba count x)) → write_line a ≡ turned_text b (Write lba count x)
unfolding turn
write_text lba count x b b' e = ap (λ (o : Outcome). write_line o.answer) e

pub start_text : (b b' : Board) {a : Answer} {bytes : List ℕ} → outcome a bytes [] b' ≡ outcome_of board_t b format → format_line a ≡ started_text b
start_text b b' e = ap (λ (o : Outcome). format_line o.answer) e

-- a refused read shows no sector, whatever it was asked for
none_shown : (a : Answer) (j k : ℕ) (l : List ℕ) → is_accepted a.reply ≡ false → read_line a j l ≡ read_line a k l
unfolding read_line
none_shown a j k l e = rw e

-- and an accepted one asks for no more than a cluster has
few_asked : (b : Board) (q : Request) → reply_of board_t b (read q) ≡ Accepted → q.count ≤ 2
unfolding board_t params_t
few_asked b q e =
    let k = read_checks board_t b q e in
    let a = asked_in board_t q (sizes board_t k.fine) k.count k.address k.given in
    omega (arith, a.inside)

shown : (b : Board) (q : Request) (j : ℕ) → j ≡ min q.count 2
    → read_line (outcome_of board_t b (read q)).answer j (outcome_of board_t b (read q)).bytes
    ≡ read_line (outcome_of board_t b (read q)).answer q.count (outcome_of board_t b (read q)).bytes
shown b q j h = go (reply_cases (reply_of board_t b (read q)))
  where
    go : (reply_of board_t b (read q) ≡ Accepted) ⊎ (is_accepted (reply_of board_t b (read q)) ≡ false)
        → read_line (outcome_of board_t b (read q)).answer j (outcome_of board_t b (read q)).bytes
        ≡ read_line (outcome_of board_t b (read q)).answer q.count (outcome_of board_t b (read q)).bytes
    go (inl e) =
        let k : j ≡ q.count = omega (arith, few_asked b q e) in
        ap (λ (n : ℕ). read_line (outcome_of board_t b (read q)).answer n (outcome_of board_t b (read q)).bytes) k
    go (inr e) = none_shown _ _ _ _ (ap is_accepted (reply_is board_t b (read q)) ∙ e)

pub read_text : (lba count : ℕ) (b : Board) (l : List ℕ) → l ≡ replicate (min count 2 * 16) 0
    → read_line (outcome_of board_t b (read (request_of lba count l))).answer (length l / 16) (outcome_of board_t b (read (request_of lba count l))).bytes
    ≡ turned_text b (Read lba count)
unfolding turn requested
read_text lba count b l e = rw e (shown b (requested lba count 0) (length (replicate (min count 2 * 16) 0) / 16) (rw length-replicate (omega arith)))
