-- What the board reads as is what the host knows: a format blanks both, a write gives both the same bytes, a release blanks a cluster of both, what a start finds
-- counts as accepted, and nothing else changes either.
-- Assumes nothing.
use mathlib.Core.Path.{◌≡◌, refl, sym, ap, ap₂, ◌∙◌}
use mathlib.Core.Logic.{◌⊎◌, inl, inr}
use Prim.Native.Nat.{ℕ, ◌+◌, ◌-◌, ◌*◌, ◌/◌, ◌%◌, ◌≤◌, ◌<◌}
use native.Mathlib.Nat.{div-add-mod', div-lt_iff_lt-mul, mod-lt}
use native.Mathlib.Omega.{arith}
use native.Mathlib.Decide.{ℕ_discrete, dec_le, dec_lt}
use mathlib.Core.Bool.{Bool, true, false, ◌&&◌, cond}
use mathlib.Core.List.{List, [], ◌∷◌}
use lib.Dec.{leb}
use borrow.Author.Tests.{eq-eqb, le-leb, le-ltb, lt-leb, lt-ltb, ne_eqb}
use Rattle.lists.proofs.Joins.{join_cong}
use Rattle.lists.specs.Below.{join_below}
use Rattle.lists.specs.Parts.{part}
use Rattle.rules.specs.declared.Params.{Params}
use Rattle.rules.specs.declared.Reply.TheVariants.{Accepted}
use Rattle.rules.specs.Numbers.{cluster_of, sector_of}
use Rattle.rules.specs.Tables.{Board}
use Rattle.rules.specs.Regions.{sector}
use Rattle.rules.specs.Requests.{Call, Request, format, queue, read, release, request_cluster, start, write}
use Rattle.rules.specs.Format.{formatted}
use Rattle.rules.specs.Write.{written}
use Rattle.rules.specs.Release.{released}
use Rattle.rules.specs.Replies.{is_accepted, reply_of}
use Rattle.rules.specs.Calls.{read_bytes}
use Rattle.rules.proofs.Admitted.{Admitted, Asked, admitted, read_checks, write_checks}
use Rattle.rules.proofs.FormatPromise.{format_reads}
use Rattle.rules.proofs.Isolation.{index_inj}
use Rattle.rules.proofs.Outcomes.{reply_cases}
use Rattle.rules.proofs.Releases.{release_others, release_reads}
use Rattle.rules.proofs.Sizes.{Sizes}
use Rattle.rules.proofs.WritePromise.{Promise, write_promise}
use Rattle.claims.specs.Runs.{Known, Memory, blank, cleared, given, learns, sector_at}
use Rattle.claims.proofs.PlainRuns.{plain_board, plain_known, plain_leaves}
use Rattle.claims.proofs.Known.{known_same, known_step, known_by}
use Rattle.claims.proofs.Singles.{AllSingle, Single, all_single, board_same, refused_leaves, singles_of}
use Rattle.claims.proofs.Steps.{accepted_leaves, done_board}

-- ---- the memory's write

module _ (p : Params) (q : Request) (m : Memory) (a : ℕ) where
  given_in : q.lba ≤ a → a < q.lba + q.count → given p q m a ≡ part p.s (a - q.lba) q.bytes
  unfolding given
  given_in h k = rw (le-leb q.lba a h, lt-ltb a (q.lba + q.count) k)

  given_out : (q.lba ≤ a → a < q.lba + q.count → ⊥) → given p q m a ≡ m a
  unfolding given
  given_out out = go (dec_lt a q.lba) (dec_lt a (q.lba + q.count))
    where
      both : (x : Bool) → cond (x && false) (part p.s (a - q.lba) q.bytes) (m a) ≡ m a
      both true = refl
      both false = refl

      go : Dec (a < q.lba) → Dec (a < q.lba + q.count) → given p q m a ≡ m a
      go (yes h) d = rw (lt-leb q.lba a h)
      go (no h) (yes k) = absurd (out (omega arith) k)
      go (no h) (no k) = rw (le-ltb a (q.lba + q.count) (omega arith)) (both (leb q.lba a))

-- the LBAs of another cluster keep what they have
pub given_else : (p : Params) (q : Request) (m : Memory) → Sizes p → Asked p q → (a : ℕ) → (cluster_of p a ≡ request_cluster p q → ⊥) → given p q m a ≡ m a
given_else p q m z ask a ne = given_out p q m a apart
  where
    start : q.lba / p.alpha * p.alpha + q.lba % p.alpha ≡ q.lba
    start = div-add-mod' q.lba p.alpha

    apart : q.lba ≤ a → a < q.lba + q.count → ⊥
    apart h k =
        ne (index_inj p.alpha (a / p.alpha) (a % p.alpha) (q.lba / p.alpha) (a - q.lba / p.alpha * p.alpha) (mod-lt a z.sectors) (omega (arith, start, ask.inside))
        (div-add-mod' a p.alpha ∙ omega (arith, start)))

-- ---- the board's write

module _ (p : Params) (b : Board) (q : Request) (e : reply_of p b (write q) ≡ Accepted) where
  acc : Admitted p b q
  acc = admitted p b q (write_checks p b q e)

  promise : Promise p b q (written p b q)
  promise = write_promise p b q e

  -- each LBA of the board reads as the memory's write has it
  pub stored : (a : ℕ) → a < p.C * p.alpha → sector_at p (written p b q) a ≡ given p q (sector_at p b) a
  unfolding sector_at
  stored a low = go (ℕ_discrete (a / p.alpha) (q.lba / p.alpha))
    where
      sectors : 0 < p.alpha
      sectors = acc.sized.sectors

      start : q.lba / p.alpha * p.alpha + q.lba % p.alpha ≡ q.lba
      start = div-add-mod' q.lba p.alpha

      -- in the request's cluster
      here : a / p.alpha ≡ q.lba / p.alpha → Dec (q.lba ≤ a) → Dec (a < q.lba + q.count) → sector p (written p b q) (q.lba / p.alpha) (a % p.alpha) ≡ given p q (sector_at p b) a
      here same x y = pick x y
        where
          at : q.lba / p.alpha * p.alpha + a % p.alpha ≡ a
          at = ap (λ (c : ℕ). c * p.alpha + a % p.alpha) (sym same) ∙ div-add-mod' a p.alpha

          before : sector p b (q.lba / p.alpha) (a % p.alpha) ≡ sector_at p b a
          before = ap (λ (c : ℕ). sector p b c (a % p.alpha)) (sym same)

          pick : Dec (q.lba ≤ a) → Dec (a < q.lba + q.count) → sector p (written p b q) (q.lba / p.alpha) (a % p.alpha) ≡ given p q (sector_at p b) a
          pick (yes h) (yes k) =
              promise.given (a % p.alpha) (omega (arith, start, at)) (omega (arith, start, at))
              ∙ ap (λ (i : ℕ). part p.s i q.bytes) (omega (arith, start, at)) ∙ sym (given_in p q (sector_at p b) a h k)
          pick (yes h) (no k) = promise.rest (a % p.alpha) (mod-lt a sectors) (λ u v. k (omega (arith, start, at))) ∙ before ∙ sym (given_out p q (sector_at p b) a (λ u v. k v))
          pick (no h) y = promise.rest (a % p.alpha) (mod-lt a sectors) (λ u v. h (omega (arith, start, at))) ∙ before ∙ sym (given_out p q (sector_at p b) a (λ u v. h u))

      go : Dec (a / p.alpha ≡ q.lba / p.alpha) → sector p (written p b q) (a / p.alpha) (a % p.alpha) ≡ given p q (sector_at p b) a
      go (yes same) = rw same (here same (dec_le q.lba a) (dec_lt a (q.lba + q.count)))
      go (no ne) = promise.others (a / p.alpha) ((div-lt_iff_lt-mul sectors).1 low) ne (a % p.alpha) ∙ sym (given_else p q (sector_at p b) acc.sized acc.asked a ne)

-- ---- the board's release

pub freed : (p : Params) (b : Board) (c a : ℕ) → sector_at p (released p b c) a ≡ cleared p c (sector_at p b) a
unfolding sector_at cleared blank
freed p b c a = go (ℕ_discrete (cluster_of p a) c)
  where
    go : Dec (cluster_of p a ≡ c) → sector_at p (released p b c) a ≡ cleared p c (sector_at p b) a
    go (yes e) = rw (e, eq-eqb c c refl) (release_reads p b c (sector_of p a))
    go (no e) = rw (ne_eqb (cluster_of p a) c e) (release_others p b c (cluster_of p a) (sector_of p a) e)

-- ---- the two together

-- each LBA of the board reads as the memory has it
abbrev pub Agrees : Params → Board → Memory → Type 0
Agrees p b m = (a : ℕ) → a < p.C * p.alpha → sector_at p b a ≡ m a

given_same : (p : Params) (q : Request) (m m' : Memory) (a : ℕ) → m a ≡ m' a → given p q m a ≡ given p q m' a
unfolding given
given_same p q m m' a e = rw e

cleared_same : (p : Params) (c : ℕ) (m m' : Memory) (a : ℕ) → m a ≡ m' a → cleared p c m a ≡ cleared p c m' a
unfolding cleared
cleared_same p c m m' a e = rw e

pub format_agrees : (p : Params) (b : Board) → reply_of p b format ≡ Accepted → Agrees p (formatted p b) (blank p)
unfolding sector_at blank
format_agrees p b e a h = format_reads p b e (cluster_of p a) (sector_of p a)

-- an accepted call changes both alike; what a start finds is what is then read
pub done_agrees : (p : Params) (b : Board) (k : Known) (c : Call) → Single c → reply_of p b c ≡ Accepted → Agrees p b k.memory
    → Agrees p (done_board p b c) (learns p (done_board p b c) c k).memory
unfolding learns done_board
done_agrees p b k format s e h a low = format_agrees p b e a low
done_agrees p b k (read q) s e h a low = h a low
done_agrees p b k (release c) s e h a low = freed p b c a ∙ cleared_same p c (sector_at p b) k.memory a (h a low)
done_agrees p b k (write q) s e h a low = stored p b q e a low ∙ given_same p q (sector_at p b) k.memory a (h a low)
done_agrees p b k (queue l) s e h a low = absurd s
done_agrees p b k start s e h a low = refl

-- so does any call that is no queue
pub call_agrees : (p : Params) (b : Board) (k : Known) (c : Call) → Single c → Agrees p b k.memory → Agrees p (plain_leaves p b c) (known_by p b c k).memory
unfolding known_by
call_agrees p b k c s h = go (reply_cases (reply_of p b c))
  where
    go : (reply_of p b c ≡ Accepted) ⊎ (is_accepted (reply_of p b c) ≡ false) → Agrees p (plain_leaves p b c) (cond (is_accepted (reply_of p b c)) (learns p (plain_leaves p b c) c k) k).memory
    go (inl e) = rw (accepted_leaves p b c s e, e) (unfold is_accepted in done_agrees p b k c s e h)
    go (inr e) = rw (e, refused_leaves p b c e) h

-- a run of such calls, and any run
run_agrees : (p : Params) (b : Board) (k : Known) (cs : List Call) → AllSingle cs → Agrees p b k.memory → Agrees p (plain_board p b cs) (plain_known p b cs k).memory
unfolding plain_board
run_agrees p b k [] s h = unfold plain_known in h
run_agrees p b k (c ∷ cs) s h = rw (known_step p b c cs k s.0) (run_agrees p (plain_leaves p b c) (known_by p b c k) cs s.1 (call_agrees p b k c s.0 h))

pub after_agrees : (p : Params) (b : Board) (k : Known) (run : List Call) → Agrees p b k.memory → Agrees p (plain_board p b run) (plain_known p b run k).memory
after_agrees p b k run h = rw (board_same p b run, known_same p b run k) (run_agrees p b k (singles_of p b run) (all_single p b run) h)

-- ---- the read

pub read_agrees : (p : Params) (b : Board) (m : Memory) (q : Request) → reply_of p b (read q) ≡ Accepted → Agrees p b m → read_bytes p b q ≡ join_below q.count (λ i. m (q.lba + i))
unfolding read_bytes
read_agrees p b m q e h = join_cong q.count _ _ one
  where
    acc : Admitted p b q
    acc = admitted p b q (read_checks p b q e)

    start : q.lba / p.alpha * p.alpha + q.lba % p.alpha ≡ q.lba
    start = div-add-mod' q.lba p.alpha

    one : (i : ℕ) → i < q.count → sector p b (q.lba / p.alpha) (q.lba % p.alpha + i) ≡ m (q.lba + i)
    one i k = ap₂ (λ (c j : ℕ). sector p b c j) cluster place ∙ unfold sector_at in h (q.lba + i) low
      where
        cluster : q.lba / p.alpha ≡ (q.lba + i) / p.alpha
        cluster =
            index_inj p.alpha (q.lba / p.alpha) (q.lba % p.alpha + i) ((q.lba + i) / p.alpha) ((q.lba + i) % p.alpha) (omega (arith, acc.asked.inside))
            (mod-lt (q.lba + i) acc.sized.sectors)
            (omega (arith, start, div-add-mod' (q.lba + i) p.alpha))

        place : q.lba % p.alpha + i ≡ (q.lba + i) % p.alpha
        place = omega (arith, start, ap (λ (c : ℕ). c * p.alpha) cluster, div-add-mod' (q.lba + i) p.alpha)

        low : q.lba + i < p.C * p.alpha
        low = (div-lt_iff_lt-mul acc.sized.sectors).0 (rw (← cluster) acc.asked.cluster)
