-- The last stamps that a call leaves: a write takes the next of its region, a format sets them to 0, and a release leaves them alone.
-- Assumes nothing.
use mathlib.Core.Path.{◌≡◌, refl, sym}
use Prim.Native.Nat.{ℕ, ◌+◌, ◌<◌}
use native.Mathlib.Decide.{ℕ_discrete, dec_lt}
use native.Mathlib.Omega.{arith}
use mathlib.Core.Bool.{cond}
use lib.Dec.{eqb}
use lib.ListN.{get_or-eq_default, get_or, get_or-replicate, length, length-replicate, replicate}
use lib.Seq.{get_or-set_other, get_or-set_same}
use borrow.Author.Tests.{eq-eqb, ne_eqb}
use Rattle.rules.specs.declared.Params.{Params}
use Rattle.rules.specs.Tables.{Board, stamp_at}
use Rattle.rules.specs.Requests.{Request, request_region}
use Rattle.rules.specs.Format.{formatted}
use Rattle.rules.specs.Release.{released}
use Rattle.rules.specs.Write.{next_stamp, written, written_by}

pub written_stamp : (p : Params) (b : Board) (q : Request) → request_region p q < length b.stamps → stamp_at (written p b q).stamps (request_region p q) ≡ stamp_at b.stamps (request_region p q) + 1
unfolding written written_by next_stamp stamp_at
written_stamp p b q low = get_or-set_same b.stamps (request_region p q) _ 0 low

pub other_stamp : (p : Params) (b : Board) (q : Request) (r : ℕ) → (request_region p q ≡ r → ⊥) → stamp_at (written p b q).stamps r ≡ stamp_at b.stamps r
unfolding written written_by stamp_at
other_stamp p b q r ne = get_or-set_other b.stamps (request_region p q) r _ 0 (λ e. ne (sym e))

-- both at once
pub write_stamps : (p : Params) (b : Board) (q : Request) → length b.stamps ≡ p.mu → (r : ℕ) → r < p.mu
    → stamp_at (written p b q).stamps r ≡ cond (eqb r (request_region p q)) (stamp_at b.stamps r + 1) (stamp_at b.stamps r)
write_stamps p b q long r low = go (ℕ_discrete r (request_region p q))
  where
    go : Dec (r ≡ request_region p q) → stamp_at (written p b q).stamps r ≡ cond (eqb r (request_region p q)) (stamp_at b.stamps r + 1) (stamp_at b.stamps r)
    go (yes e) = rw (eq-eqb r (request_region p q) e, e) (written_stamp p b q (rw (← e, long) low))
    go (no ne) = rw (ne_eqb r (request_region p q) ne) (other_stamp p b q r (λ e. ne (sym e)))

pub released_stamp : (p : Params) (b : Board) (c r : ℕ) → stamp_at (released p b c).stamps r ≡ stamp_at b.stamps r
unfolding released
released_stamp p b c r = refl

pub format_stamp : (p : Params) (b : Board) (r : ℕ) → stamp_at (formatted p b).stamps r ≡ 0
unfolding formatted stamp_at
format_stamp p b r = go (dec_lt r p.mu)
  where
    go : Dec (r < p.mu) → ◌≡◌ {A = ℕ} (get_or (replicate p.mu 0) r 0) 0
    go (yes h) = get_or-replicate p.mu r 0 0 h
    go (no h) = get_or-eq_default (replicate p.mu 0) 0 (rw length-replicate (omega arith))
