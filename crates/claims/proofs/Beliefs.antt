-- What holds of the board by what the host knows, through every call that is not cut. Where the tables stand, so does the board, and it reads as the host knows; where a cut took them they are
-- not orderly, so that all but a start and a format are refused, and the chip shows what the host knows.
-- Assumes nothing.
use mathlib.Core.Path.{◌≡◌, refl, ap, ◌∙◌}
use mathlib.Core.Logic.{◌⊎◌, inl, inr}
use Prim.Native.Nat.{ℕ, ◌-◌}
use mathlib.Core.Bool.{Bool, true, false, cond}
use mathlib.Core.List.{List, [], ◌∷◌, map}
use lib.Dec.{ltb}
use lib.ListN.{length}
use Rattle.lists.proofs.Tests.{never}
use Rattle.rules.specs.declared.Params.{Params}
use Rattle.rules.specs.declared.Reply.{Reply}
use Rattle.rules.specs.declared.Reply.TheVariants.{Accepted}
use Rattle.rules.specs.Parameters.{allowed}
use Rattle.rules.specs.Tables.{Board}
use Rattle.rules.specs.Orderly.{orderly}
use Rattle.rules.specs.Requests.{Call, Queue, Request, format, item_requests, queue, read, release, start, write}
use Rattle.rules.specs.Replies.{is_accepted, lengths_fit, reply_of}
use Rattle.rules.specs.Calls.{Part, outcome_of, queue_work, work_of}
use Rattle.rules.specs.Cuts.{cut_part, finished}
use Rattle.rules.proofs.Admitted.{read_checks, release_admitted, write_checks}
use Rattle.rules.proofs.Outcomes.{reply_cases, reply_is}
use Rattle.claims.specs.Runs.{Belief, Known, doubts, doubts_in, hears, hears_all, is_format, learns, losing, lost, nothing, resets, stands}
use Rattle.claims.proofs.Memory.{Agrees, after_agrees, format_agrees}
use Rattle.claims.proofs.PlainRuns.{learns_all, plain_board, plain_known, plain_leaves, plain_parts, plain_writes}
use Rattle.claims.proofs.Queues.{on_disorder}
use Rattle.claims.proofs.Recovery.{Lost, lost_start}
use Rattle.claims.proofs.Singles.{Single, queue_parts, refused_leaves}
use Rattle.claims.proofs.Standing.{Standing, after_standing, format_standing}
use Rattle.claims.proofs.Steps.{accepted_leaves, done_board, its_part, part_of, parts_step}

-- ---- what holds

abbrev pub Believed : Params → Board → Belief → Type 0
Believed p b nothing = Unit {0}
Believed p b (stands k) = Standing p b k × Agrees p b k.memory
Believed p b (lost k short) = (orderly p b ≡ false) × Lost p k short b.chip

-- ---- what is heard

either {ℓ} : {A : Type ℓ} (t : Bool) (x : A) → cond t x x ≡ x
either true x = refl
either false x = refl

-- where the tables stand, what is learnt
pub hears_known : (p : Params) (b' : Board) (xs : List Part) (k : Known) → hears_all p b' xs (stands k) ≡ stands (learns_all p b' xs k)
unfolding hears_all learns_all hears
hears_known p b' [] k = refl
hears_known p b' (x ∷ xs) k =
    ap (hears_all p b' xs) (go (is_accepted x.answer.reply)) ∙ hears_known p b' xs (cond (is_accepted x.answer.reply) (learns p b' x.asks k) k)
  where
    go : (t : Bool) → cond t (stands (learns p b' x.asks k)) (stands k) ≡ stands (cond t (learns p b' x.asks k) k)
    go true = refl
    go false = refl

-- a call that is no queue has one part
pub one_heard : (p : Params) (b b' : Board) (c : Call) (x : Belief) → Single c → hears_all p b' (work_of p b c).parts x ≡ cond (is_accepted (reply_of p b c)) (hears p b' c x) x
unfolding hears_all part_of
one_heard p b b' c x s = rw (its_part p b c s) (ap (λ (r : Reply). cond (is_accepted r) (hears p b' c x) x) (reply_is p b c))

-- ---- a call that is not cut, on tables that do not stand

module _ (p : Params) (b : Board) (k : Known) where
  pub formatted_known : reply_of p b format ≡ Accepted → Believed p (done_board p b format) (stands (learns p (done_board p b format) format k))
  formatted_known e = (format_standing p b k e, unfold done_board learns in format_agrees p b e)

done_nothing : (p : Params) (b : Board) (c : Call) → reply_of p b c ≡ Accepted → Believed p (done_board p b c) (hears p (done_board p b c) c nothing)
unfolding hears is_format
done_nothing p b format e = unfold learns in formatted_known p b (record { memory = λ a. []; released = λ c. false }) e
done_nothing p b (read q) e = tt
done_nothing p b (write q) e = tt
done_nothing p b (release c) e = tt
done_nothing p b (queue l) e = tt
done_nothing p b start e = tt

module _ (p : Params) (fine : allowed p ≡ true) (b : Board) (lengths : lengths_fit p b ≡ true) (k : Known) (short : List Request) (off : orderly p b ≡ false) (l : Lost p k short b.chip) where
  done_lost : (c : Call) → Single c → reply_of p b c ≡ Accepted → Believed p (done_board p b c) (hears p (done_board p b c) c (lost k short))
  unfolding hears resets
  done_lost format s e = formatted_known p b k e
  done_lost (read q) s e = absurd (never (read_checks p b q e).tidy off)
  done_lost (write q) s e = absurd (never (write_checks p b q e).tidy off)
  done_lost (release c) s e = absurd (never (release_admitted p b c e).tidy off)
  done_lost (queue m) s e = absurd s
  done_lost start s e =
      let w = lost_start p fine b lengths k short l in
      unfold done_board in (record { stands = w.0; left = w.1 }, λ a h. unfold learns in refl)

-- any call that is no queue
single_known : (p : Params) (b : Board) (c : Call) (x : Belief) → Single c → Believed p b x
    → (reply_of p b c ≡ Accepted → Believed p (done_board p b c) (hears p (done_board p b c) c x))
    → Believed p (plain_leaves p b c) (hears_all p (plain_leaves p b c) (work_of p b c).parts x)
single_known p b c x s h done = rw (one_heard p b (plain_leaves p b c) c x s) (go (reply_cases (reply_of p b c)))
  where
    go : (reply_of p b c ≡ Accepted) ⊎ (is_accepted (reply_of p b c) ≡ false) → Believed p (plain_leaves p b c) (cond (is_accepted (reply_of p b c)) (hears p (plain_leaves p b c) c x) x)
    go (inl e) = rw (accepted_leaves p b c s e, e) (unfold is_accepted in done e)
    go (inr e) = rw (e, refused_leaves p b c e) h

-- ---- writes teach nothing there

-- each of these parts asks for a write
abbrev pub AllWrites : List Part → Type 0
AllWrites [] = Unit {0}
AllWrites (x ∷ xs) = ((q : Request) × (x.asks ≡ write q)) × AllWrites xs

all_writes : (p : Params) (b : Board) (qs : List Request) → AllWrites (plain_parts p b (map write qs))
all_writes p b [] = unfold plain_parts in tt
all_writes p b (q ∷ qs) = rw (parts_step p b (write q) (map write qs) tt) (one, all_writes p (plain_leaves p b (write q)) qs)
  where
    one : (r : Request) × ((part_of p b (write q)).asks ≡ write r)
    one = unfold part_of in (q, refl)

pub finished_writes : (k : ℕ) (xs : List Part) → AllWrites xs → AllWrites (finished k xs)
unfolding finished
finished_writes k [] h = tt
finished_writes k (x ∷ xs) h = go (ltb (length x.ops) k) (finished_writes (k - length x.ops) xs h.1)
  where
    go : (t : Bool) → AllWrites (finished (k - length x.ops) xs) → AllWrites (cond t (x ∷ finished (k - length x.ops) xs) [])
    go true below = (h.0, below)
    go false below = tt

pub cut_writes : (k : ℕ) (xs : List Part) → AllWrites xs → AllWrites (cut_part k xs)
unfolding cut_part
cut_writes k [] h = tt
cut_writes k (x ∷ xs) h = go (ltb (length x.ops) k) (cut_writes (k - length x.ops) xs h.1)
  where
    go : (t : Bool) → AllWrites (cut_part (k - length x.ops) xs) → AllWrites (cond t (cut_part (k - length x.ops) xs) (x ∷ []))
    go true below = below
    go false below = (h.0, tt)

-- a belief that no write and no cut of one changes
pub record Deaf (p : Params) (b' : Board) (x : Belief) : Type 0 where
  writes : (q : Request) → hears p b' (write q) x ≡ x
  cuts : (short : List Request) → losing short x ≡ x

pub deaf_nothing : (p : Params) (b' : Board) → Deaf p b' nothing
unfolding hears is_format losing
deaf_nothing p b' = record { writes = λ q. refl; cuts = λ short. refl }

pub deaf_lost : (p : Params) (b' : Board) (k : Known) (short : List Request) → Deaf p b' (lost k short)
unfolding hears resets losing
deaf_lost p b' k short = record { writes = λ q. refl; cuts = λ s. refl }

module _ (p : Params) (b' : Board) (x : Belief) (deaf : Deaf p b' x) where
  pub unheard : (xs : List Part) → AllWrites xs → hears_all p b' xs x ≡ x
  unfolding hears_all
  unheard [] h = refl
  unheard (y ∷ ys) h = rw (h.0.1, deaf.writes h.0.0, either (is_accepted y.answer.reply) x) (unheard ys h.1)

  pub undoubted : (xs : List Part) → AllWrites xs → doubts_in xs x ≡ x
  unfolding doubts_in doubts
  undoubted [] h = deaf.cuts []
  undoubted (y ∷ ys) h = rw (h.0.1, deaf.cuts (h.0.0 ∷ []), deaf.cuts []) (either (is_accepted y.answer.reply) x)

-- the parts of a queue, none where it is refused
pub queue_writes : (p : Params) (b : Board) (l : Queue) → AllWrites (work_of p b (queue l)).parts
queue_writes p b l = go (reply_cases (reply_of p b (queue l)))
  where
    go : (reply_of p b (queue l) ≡ Accepted) ⊎ (is_accepted (reply_of p b (queue l)) ≡ false) → AllWrites (work_of p b (queue l)).parts
    go (inl e) = rw (queue_parts p b l e) (unfold plain_writes in all_writes p b (item_requests p l.bytes l.items))
    go (inr e) = unfold work_of queue_work in rw e tt

-- a queue on tables that are not orderly leaves the board
queue_still : (p : Params) (b : Board) (l : Queue) → orderly p b ≡ false → plain_leaves p b (queue l) ≡ b
queue_still p b l off = go (reply_cases (reply_of p b (queue l)))
  where
    go : (reply_of p b (queue l) ≡ Accepted) ⊎ (is_accepted (reply_of p b (queue l)) ≡ false) → plain_leaves p b (queue l) ≡ b
    go (inl e) = unfold plain_leaves outcome_of in (on_disorder p b l e off).same
    go (inr e) = refused_leaves p b (queue l) e

-- ---- any call that is not cut

module _ (p : Params) (fine : allowed p ≡ true) (b : Board) (lengths : lengths_fit p b ≡ true) where
  abbrev Plainly : Call → Belief → Type 0
  Plainly c x = Believed p (plain_leaves p b c) (hears_all p (plain_leaves p b c) (work_of p b c).parts x)

  plain_stands : (c : Call) (k : Known) → Believed p b (stands k) → Plainly c (stands k)
  plain_stands c k h =
      rw (hears_known p (plain_leaves p b c) (work_of p b c).parts k)
      (unfold plain_board plain_known in (after_standing p b k (c ∷ []) h.0, after_agrees p b k (c ∷ []) h.1))

  plain_nothing : (c : Call) → Plainly c nothing
  plain_nothing format = single_known p b format nothing tt tt (done_nothing p b format)
  plain_nothing (read q) = single_known p b (read q) nothing tt tt (done_nothing p b (read q))
  plain_nothing (write q) = single_known p b (write q) nothing tt tt (done_nothing p b (write q))
  plain_nothing (release c) = single_known p b (release c) nothing tt tt (done_nothing p b (release c))
  plain_nothing start = single_known p b start nothing tt tt (done_nothing p b start)
  plain_nothing (queue l) = rw (unheard p (plain_leaves p b (queue l)) nothing (deaf_nothing p (plain_leaves p b (queue l))) (work_of p b (queue l)).parts (queue_writes p b l)) tt

  plain_lost : (c : Call) (k : Known) (short : List Request) → Believed p b (lost k short) → Plainly c (lost k short)
  plain_lost format k short h = single_known p b format (lost k short) tt h (done_lost p fine b lengths k short h.0 h.1 format tt)
  plain_lost (read q) k short h = single_known p b (read q) (lost k short) tt h (done_lost p fine b lengths k short h.0 h.1 (read q) tt)
  plain_lost (write q) k short h = single_known p b (write q) (lost k short) tt h (done_lost p fine b lengths k short h.0 h.1 (write q) tt)
  plain_lost (release c) k short h = single_known p b (release c) (lost k short) tt h (done_lost p fine b lengths k short h.0 h.1 (release c) tt)
  plain_lost start k short h = single_known p b start (lost k short) tt h (done_lost p fine b lengths k short h.0 h.1 start tt)
  plain_lost (queue l) k short h =
      rw (unheard p (plain_leaves p b (queue l)) (lost k short) (deaf_lost p (plain_leaves p b (queue l)) k short) (work_of p b (queue l)).parts (queue_writes p b l), queue_still p b l h.0) h

  pub plain_known_lem : (c : Call) (x : Belief) → Believed p b x → Plainly c x
  plain_known_lem c nothing h = plain_nothing c
  plain_known_lem c (stands k) h = plain_stands c k h
  plain_known_lem c (lost k short) h = plain_lost c k short h
