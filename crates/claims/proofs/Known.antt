-- What the host knows after a run is what it knows after the run's single calls: a queue teaches what its writes teach, in their order.
-- Assumes nothing.
use mathlib.Core.Path.{◌≡◌, refl, sym, ap, ap₂, ◌∙◌}
use mathlib.Core.Logic.{◌⊎◌, inl, inr}
use mathlib.Core.Bool.{false, cond}
use mathlib.Core.List.{List, [], ◌∷◌, ◌++◌, map}
use Rattle.rules.specs.declared.Params.{Params}
use Rattle.rules.specs.declared.Reply.{Reply}
use Rattle.rules.specs.declared.Reply.TheVariants.{Accepted}
use Rattle.rules.specs.Tables.{Board}
use Rattle.rules.specs.Requests.{Call, Request, format, item_requests, queue, read, release, start, write}
use Rattle.rules.specs.Replies.{is_accepted, reply_of}
use Rattle.rules.specs.Calls.{Part, queue_work, work_of}
use Rattle.rules.proofs.Outcomes.{reply_cases, reply_is}
use Rattle.claims.specs.Runs.{Known, learns}
use Rattle.claims.proofs.PlainRuns.{learns_all, plain_board, plain_known, plain_leaves, plain_parts, plain_writes}
use Rattle.claims.proofs.Singles.{Single, one_board, queue_parts, singles, singles_of}
use Rattle.claims.proofs.Steps.{its_part, part_of}

-- ---- a call that is no queue

-- what it teaches, by its reply
unfoldable pub known_by : Params → Board → Call → Known → Known
known_by p b c k = cond (is_accepted (reply_of p b c)) (learns p (plain_leaves p b c) c k) k

-- it has one part
one_part : (p : Params) (b b' : Board) (c : Call) (k : Known) → Single c
    → learns_all p b' (work_of p b c).parts k ≡ cond (is_accepted (reply_of p b c)) (learns p b' c k) k
unfolding learns_all part_of
one_part p b b' c k s = rw (its_part p b c s) (ap (λ (r : Reply). cond (is_accepted r) (learns p b' c k) k) (reply_is p b c))

pub known_step : (p : Params) (b : Board) (c : Call) (cs : List Call) (k : Known) → Single c → plain_known p b (c ∷ cs) k ≡ plain_known p (plain_leaves p b c) cs (known_by p b c k)
unfolding plain_known known_by
known_step p b c cs k s = ap (plain_known p (plain_leaves p b c) cs) (one_part p b (plain_leaves p b c) c k s)

-- ---- parts and runs one after the other

all_append : (p : Params) (b' : Board) (xs ys : List Part) (k : Known) → learns_all p b' (xs ++ ys) k ≡ learns_all p b' ys (learns_all p b' xs k)
unfolding learns_all
all_append p b' [] ys k = refl
all_append p b' (x ∷ xs) ys k = all_append p b' xs ys _

known_append : (p : Params) (b : Board) (xs ys : List Call) (k : Known) → plain_known p b (xs ++ ys) k ≡ plain_known p (plain_board p b xs) ys (plain_known p b xs k)
unfolding plain_known plain_board
known_append p b [] ys k = refl
known_append p b (c ∷ xs) ys k = known_append p (plain_leaves p b c) xs ys _

-- ---- writes: what they teach does not depend on the board that is left

writes_known : (p : Params) (b b' : Board) (qs : List Request) (k : Known) → learns_all p b' (plain_parts p b (map write qs)) k ≡ plain_known p b (map write qs) k
unfolding plain_parts
writes_known p b b' [] k = unfold plain_known learns_all in refl
writes_known p b b' (q ∷ qs) k =
    all_append p b' (work_of p b (write q)).parts (plain_parts p (plain_leaves p b (write q)) (map write qs)) k
    ∙ ap (learns_all p b' (plain_parts p (plain_leaves p b (write q)) (map write qs))) (one_part p b b' (write q) k tt)
    ∙ writes_known p (plain_leaves p b (write q)) b' qs (cond (is_accepted (reply_of p b (write q))) (learns p b' (write q) k) k)
    ∙ sym (known_step p b (write q) (map write qs) k tt ∙ unfold known_by learns in refl) ∙ refl

-- ---- a call as its single calls

one_known : (p : Params) (b : Board) (c : Call) (k : Known) → learns_all p (plain_leaves p b c) (work_of p b c).parts k ≡ plain_known p b (singles p b c) k
unfolding singles plain_known
one_known p b format k = refl
one_known p b (read q) k = refl
one_known p b (write q) k = refl
one_known p b (release c) k = refl
one_known p b start k = refl
one_known p b (queue l) k = go (reply_cases (reply_of p b (queue l)))
  where
    go : (reply_of p b (queue l) ≡ Accepted) ⊎ (is_accepted (reply_of p b (queue l)) ≡ false)
        → learns_all p (plain_leaves p b (queue l)) (work_of p b (queue l)).parts k ≡ plain_known p b (cond (is_accepted (reply_of p b (queue l))) (plain_writes p l) []) k
    go (inl e) =
        rw (queue_parts p b l e, e) (unfold is_accepted plain_writes in writes_known p b (plain_leaves p b (queue l)) (item_requests p l.bytes l.items) k)
    go (inr e) = unfold work_of queue_work learns_all in rw e

-- ---- a run as its single calls

pub known_same : (p : Params) (b : Board) (run : List Call) (k : Known) → plain_known p b run k ≡ plain_known p b (singles_of p b run) k
unfolding singles_of plain_known
known_same p b [] k = refl
known_same p b (c ∷ cs) k =
    known_same p (plain_leaves p b c) cs (learns_all p (plain_leaves p b c) (work_of p b c).parts k)
    ∙ ap₂ (λ (x : Board) (y : Known). plain_known p x (singles_of p (plain_leaves p b c) cs) y) (one_board p b c) (one_known p b c k)
    ∙ sym (known_append p b (singles p b c) (singles_of p (plain_leaves p b c) cs) k)
