-- A run that finds at least μγ+1 blocks that are not reserved is a run of single calls that do: a queue's items are its single writes, and each finds what the one before left.
-- Assumes nothing.
use mathlib.Core.Path.{◌≡◌, refl, ◌∙◌}
use mathlib.Core.Logic.{◌⊎◌, inl, inr}
use mathlib.Core.Bool.{Bool, true, false, ◌&&◌, and-true, cond}
use mathlib.Core.List.{List, [], ◌∷◌, ◌++◌, map}
use Rattle.lists.proofs.Tests.{and_intro, and_left, and_right}
use Rattle.rules.specs.declared.Params.{Params}
use Rattle.rules.specs.declared.Reply.TheVariants.{Accepted}
use Rattle.rules.specs.Tables.{Board}
use Rattle.rules.specs.Orderly.{enough}
use Rattle.rules.specs.Requests.{Call, Request, format, item_requests, queue, read, release, start, write}
use Rattle.rules.specs.Replies.{is_accepted, reply_of}
use Rattle.rules.specs.Calls.{outcome_of, work_of, write_work}
use Rattle.rules.specs.Cuts.{Step, call_of}
use Rattle.rules.proofs.Outcomes.{reply_cases}
use Rattle.claims.specs.Runs.{leaves, roomy, roomy_call, roomy_items, uncut}
use Rattle.claims.proofs.PlainRuns.{first_uncut, plain_board, plain_leaves, plain_writes, uncut_leaves}
use Rattle.claims.proofs.Singles.{one_board, singles, singles_of}

-- of plain calls, and of single ones
unfoldable pub calls_roomy : Params → Board → List Call → Bool
calls_roomy p b [] = true
calls_roomy p b (c ∷ cs) = roomy_call p b c && calls_roomy p (plain_leaves p b c) cs

unfoldable pub plain_roomy : Params → Board → List Call → Bool
plain_roomy p b [] = true
plain_roomy p b (c ∷ cs) = enough p b && plain_roomy p (plain_leaves p b c) cs

-- without a cut each call finds what the plain one before it left
pub uncut_roomy : (p : Params) (b : Board) (ss : List Step) → uncut p b ss ≡ true → roomy p b ss ≡ true → calls_roomy p b (map call_of ss) ≡ true
unfolding roomy calls_roomy
uncut_roomy p b [] u h = refl
uncut_roomy p b (s ∷ ss) u h =
    let w = first_uncut p b s ss u in
    and_intro (and_left (roomy_call p b (call_of s)) _ h)
    (rw (uncut_leaves p b s w.0) at (uncut_roomy p (leaves p b s) ss w.1 (and_right (roomy_call p b (call_of s)) h)))

-- the items of a queue are its single writes
items_roomy : (p : Params) (b : Board) (qs : List Request) → roomy_items p b qs ≡ true → plain_roomy p b (map write qs) ≡ true
unfolding roomy_items plain_roomy plain_leaves outcome_of work_of
items_roomy p b [] h = refl
items_roomy p b (q ∷ qs) h = and_intro (and_left (enough p b) _ h) (items_roomy p (write_work p b q).left qs (and_right (enough p b) h))

one_roomy : (p : Params) (b : Board) (c : Call) → roomy_call p b c ≡ true → plain_roomy p b (singles p b c) ≡ true
unfolding roomy_call singles plain_roomy
one_roomy p b format h = and-true (enough p b) ∙ h
one_roomy p b (read q) h = and-true (enough p b) ∙ h
one_roomy p b (write q) h = and-true (enough p b) ∙ h
one_roomy p b (release c) h = and-true (enough p b) ∙ h
one_roomy p b start h = and-true (enough p b) ∙ h
one_roomy p b (queue l) h = go (reply_cases (reply_of p b (queue l)))
  where
    go : (reply_of p b (queue l) ≡ Accepted) ⊎ (is_accepted (reply_of p b (queue l)) ≡ false) → plain_roomy p b (cond (is_accepted (reply_of p b (queue l))) (plain_writes p l) []) ≡ true
    go (inl e) = rw e (unfold is_accepted plain_writes in items_roomy p b (item_requests p l.bytes l.items) h)
    go (inr e) = rw e (unfold plain_roomy in refl)

roomy_append : (p : Params) (b : Board) (xs ys : List Call) → plain_roomy p b xs ≡ true → plain_roomy p (plain_board p b xs) ys ≡ true → plain_roomy p b (xs ++ ys) ≡ true
unfolding plain_roomy plain_board
roomy_append p b [] ys h k = k
roomy_append p b (c ∷ xs) ys h k = and_intro (and_left (enough p b) _ h) (roomy_append p (plain_leaves p b c) xs ys (and_right (enough p b) h) k)

-- so of a run
pub singles_roomy : (p : Params) (b : Board) (cs : List Call) → calls_roomy p b cs ≡ true → plain_roomy p b (singles_of p b cs) ≡ true
unfolding calls_roomy singles_of
singles_roomy p b [] h = unfold plain_roomy in refl
singles_roomy p b (c ∷ cs) h =
    roomy_append p b (singles p b c) (singles_of p (plain_leaves p b c) cs) (one_roomy p b c (and_left (roomy_call p b c) _ h))
    (rw (← (one_board p b c)) (singles_roomy p (plain_leaves p b c) cs (and_right (roomy_call p b c) h)))
