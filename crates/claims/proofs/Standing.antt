-- Through any plain calls, starts among them, a board stands (crate starts): it is orderly, its stamps tell which frame is the latest, and what is reserved is bad; and a
-- cluster that the host has not released has a CT entry, or no whole frame left. Call by call, each law of crate starts.
-- Assumes nothing.
use mathlib.Core.Path.{◌≡◌, refl}
use mathlib.Core.Logic.{◌⊎◌, inl, inr}
use Prim.Native.Nat.{ℕ, ◌<◌}
use native.Mathlib.Decide.{ℕ_discrete}
use mathlib.Core.Bool.{true, false, cond}
use mathlib.Core.List.{List, [], ◌∷◌}
use borrow.Author.Tests.{eq-eqb, ne_eqb}
use Rattle.lists.specs.Below.{updated}
use Rattle.lists.proofs.Tests.{never}
use Rattle.rules.specs.declared.Params.{Params}
use Rattle.rules.specs.declared.Reply.TheVariants.{Accepted}
use Rattle.rules.specs.Tables.{Board}
use Rattle.rules.specs.Requests.{Call, format, queue, read, release, request_cluster, start, write}
use Rattle.rules.specs.Replies.{is_accepted, reply_of}
use Rattle.rules.proofs.Outcomes.{reply_cases}
use Rattle.starts.specs.Stands.{Clear, Stands}
use Rattle.starts.proofs.Keeps.{start_keeps}
use Rattle.starts.proofs.Stands.{formatted_clear, formatted_stands, released_clear, released_stands, written_stands}
use Rattle.claims.specs.Runs.{Known, learns}
use Rattle.claims.proofs.PlainRuns.{plain_board, plain_known, plain_leaves}
use Rattle.claims.proofs.Known.{known_same, known_step, known_by}
use Rattle.claims.proofs.Singles.{AllSingle, Single, all_single, board_same, refused_leaves, singles_of}
use Rattle.claims.proofs.Steps.{accepted_leaves, done_board}

-- the clusters that have a whole frame left but no CT entry are among those that the host has released
abbrev pub Left : Params → Board → Known → Type 0
Left p b k = (c : ℕ) → c < p.C → k.released c ≡ false → Clear p b c

-- the board stands, and what the host knows of its clusters is so
pub record Standing (p : Params) (b : Board) (k : Known) : Type 0 where
  pub stands : Stands p b
  pub left : Left p b k

-- ---- an accepted call

pub format_standing : (p : Params) (b : Board) (k : Known) → reply_of p b format ≡ Accepted → Standing p (done_board p b format) (learns p (done_board p b format) format k)
unfolding done_board learns
format_standing p b k e = record { stands = formatted_stands p b e; left = λ c h x. formatted_clear p b e c }

-- a start finds every cluster that has a whole frame left
start_standing : (p : Params) (b : Board) (k : Known) → Stands p b → Standing p (done_board p b start) (learns p (done_board p b start) start k)
unfolding done_board learns
start_standing p b k st =
    let keeps = start_keeps p b st in
    record { stands = keeps.stands; left = λ c h x. keeps.clear c h }

pub done_standing : (p : Params) (b : Board) (k : Known) (c : Call) → Single c → reply_of p b c ≡ Accepted → Standing p b k → Standing p (done_board p b c) (learns p (done_board p b c) c k)
unfolding done_board learns updated
done_standing p b k format s e h = format_standing p b k e
done_standing p b k (read q) s e h = h
done_standing p b k (queue l) s e h = absurd s
done_standing p b k start s e h = start_standing p b k h.stands
done_standing p b k (write q) s e h =
    let w = written_stands p b h.stands q e in
    record { stands = w.0; left = λ c low x. go c low x (ℕ_discrete c (request_cluster p q)) }
  where
    go : (c : ℕ) → c < p.C → updated k.released (request_cluster p q) false c ≡ false → Dec (c ≡ request_cluster p q) → Clear p (done_board p b (write q)) c
    go c low x (yes i) = rw i (written_stands p b h.stands q e).2
    go c low x (no ne) = (written_stands p b h.stands q e).1 c low (h.left c low (rw (ne_eqb c (request_cluster p q) ne) at x))
done_standing p b k (release n) s e h =
    record { stands = released_stands p b h.stands n; left = λ c low x. go c low x (ℕ_discrete c n) }
  where
    go : (c : ℕ) → c < p.C → updated k.released n true c ≡ false → Dec (c ≡ n) → Clear p (done_board p b (release n)) c
    go c low x (yes i) = absurd (never refl (rw (eq-eqb c n i) at x))
    go c low x (no ne) = released_clear p b h.stands n c ne (h.left c low (rw (ne_eqb c n ne) at x))

-- ---- any call that is no queue, and runs

pub call_standing : (p : Params) (b : Board) (k : Known) (c : Call) → Single c → Standing p b k → Standing p (plain_leaves p b c) (known_by p b c k)
unfolding known_by
call_standing p b k c s h = go (reply_cases (reply_of p b c))
  where
    go : (reply_of p b c ≡ Accepted) ⊎ (is_accepted (reply_of p b c) ≡ false) → Standing p (plain_leaves p b c) (cond (is_accepted (reply_of p b c)) (learns p (plain_leaves p b c) c k) k)
    go (inl e) = rw (accepted_leaves p b c s e, e) (unfold is_accepted in done_standing p b k c s e h)
    go (inr e) = rw (e, refused_leaves p b c e) h

run_standing : (p : Params) (b : Board) (k : Known) (cs : List Call) → AllSingle cs → Standing p b k → Standing p (plain_board p b cs) (plain_known p b cs k)
unfolding plain_board
run_standing p b k [] s h = unfold plain_known in h
run_standing p b k (c ∷ cs) s h = rw (known_step p b c cs k s.0) (run_standing p (plain_leaves p b c) (known_by p b c k) cs s.1 (call_standing p b k c s.0 h))

-- a queue is its single writes
pub after_standing : (p : Params) (b : Board) (k : Known) (run : List Call) → Standing p b k → Standing p (plain_board p b run) (plain_known p b run k)
after_standing p b k run h = rw (board_same p b run, known_same p b run k) (run_standing p b k (singles_of p b run) (all_single p b run) h)

-- from a format on, whatever the host knew before it
pub first_standing : (p : Params) (b : Board) (k : Known) → reply_of p b format ≡ Accepted → Standing p (plain_leaves p b format) (known_by p b format k)
unfolding known_by is_accepted
first_standing p b k e = rw (accepted_leaves p b format tt e, e) (format_standing p b k e)
