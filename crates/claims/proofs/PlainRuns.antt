-- Runs of calls without budgets, by which runs are reasoned about: the board, the parts, the operations and what is known after one. A run of which no call is cut is the plain
-- run of its calls.
-- Assumes nothing.
use mathlib.Core.Path.{◌≡◌, refl, sym, ap, ap₂, ◌∙◌}
use mathlib.Core.Bool.{Bool, true, false, not, ◌&&◌, cond}
use mathlib.Core.List.{List, [], ◌∷◌, ◌++◌, append_assoc, map}
use borrow.Author.Tests.{not-true}
use Rattle.lists.proofs.Tests.{and_intro, and_left, and_right}
use Rattle.rules.specs.declared.Params.{Params}
use Rattle.rules.specs.Tables.{Board}
use Rattle.rules.specs.Traces.{Op}
use Rattle.rules.specs.Requests.{Call, Queue, format, item_requests, write}
use Rattle.rules.specs.Replies.{is_accepted}
use Rattle.rules.specs.Calls.{Outcome, Part, ops_of, outcome_of, work_of}
use Rattle.rules.specs.Cuts.{Step, call_of, is_cut, limited, plain, step_outcome}
use Rattle.claims.specs.Runs.{Known, board_after, leaves, learns, made_by, parts_by, parts_of, resets, trace_of, uncut, undisturbed}

-- ---- a plain run

unfoldable pub plain_leaves : Params → Board → Call → Board
plain_leaves p b c = (outcome_of p b c).board

unfoldable pub plain_board : Params → Board → List Call → Board
plain_board p b [] = b
plain_board p b (c ∷ cs) = plain_board p (plain_leaves p b c) cs

unfoldable pub plain_parts : Params → Board → List Call → List Part
plain_parts p b [] = []
plain_parts p b (c ∷ cs) = (work_of p b c).parts ++ plain_parts p (plain_leaves p b c) cs

unfoldable pub plain_trace : Params → Board → List Call → List Op
plain_trace p b cs = ops_of (plain_parts p b cs)

-- no format and no start is among the calls
unfoldable pub plain_undisturbed : List Call → Bool
plain_undisturbed [] = true
plain_undisturbed (c ∷ cs) = not (resets c) && plain_undisturbed cs

-- the single writes of a queue
unfoldable pub plain_writes : Params → Queue → List Call
plain_writes p l = map write (item_requests p l.bytes l.items)

-- what the host knows, where the tables stand
unfoldable pub learns_all : Params → Board → List Part → Known → Known
learns_all p b' [] k = k
learns_all p b' (x ∷ xs) k = learns_all p b' xs (cond (is_accepted x.answer.reply) (learns p b' x.asks k) k)

unfoldable pub plain_known : Params → Board → List Call → Known → Known
plain_known p b [] k = k
plain_known p b (c ∷ cs) k = plain_known p (plain_leaves p b c) cs (learns_all p (plain_leaves p b c) (work_of p b c).parts k)

-- ---- a call that is not cut is the plain call

pub uncut_outcome : (p : Params) (b : Board) (s : Step) → is_cut p b s ≡ false → step_outcome p b s ≡ outcome_of p b (call_of s)
unfolding step_outcome call_of
uncut_outcome p b (plain c) e = refl
uncut_outcome p b (limited k c) e = rw e

pub uncut_leaves : (p : Params) (b : Board) (s : Step) → is_cut p b s ≡ false → leaves p b s ≡ plain_leaves p b (call_of s)
unfolding leaves plain_leaves
uncut_leaves p b s e = ap (λ (o : Outcome). o.board) (uncut_outcome p b s e)

pub uncut_by : (p : Params) (b : Board) (s : Step) → is_cut p b s ≡ false → parts_by p b s ≡ (work_of p b (call_of s)).parts
unfolding parts_by call_of
uncut_by p b (plain c) e = refl
uncut_by p b (limited k c) e = rw e

pub uncut_made : (p : Params) (b : Board) (s : Step) → is_cut p b s ≡ false → made_by p b s ≡ ops_of (work_of p b (call_of s)).parts
unfolding made_by call_of
uncut_made p b (plain c) e = refl
uncut_made p b (limited k c) e = rw e

-- ---- and so a run

pub ops_append : (xs ys : List Part) → ops_of (xs ++ ys) ≡ ops_of xs ++ ops_of ys
unfolding ops_of
ops_append [] ys = refl
ops_append (x ∷ xs) ys = rw (ops_append xs ys) (sym (append_assoc x.ops (ops_of xs) (ops_of ys)))

-- its first call is not cut, and no other is
pub first_uncut : (p : Params) (b : Board) (s : Step) (ss : List Step) → uncut p b (s ∷ ss) ≡ true → (is_cut p b s ≡ false) × (uncut p (leaves p b s) ss ≡ true)
unfolding uncut
first_uncut p b s ss h = (not-true _ (and_left (not (is_cut p b s)) _ h), and_right (not (is_cut p b s)) h)

pub uncut_board : (p : Params) (b : Board) (ss : List Step) → uncut p b ss ≡ true → board_after p b ss ≡ plain_board p b (map call_of ss)
unfolding board_after plain_board
uncut_board p b [] h = refl
uncut_board p b (s ∷ ss) h =
    let u = first_uncut p b s ss h in
    uncut_board p (leaves p b s) ss u.1 ∙ ap (λ (x : Board). plain_board p x (map call_of ss)) (uncut_leaves p b s u.0)

pub uncut_parts : (p : Params) (b : Board) (ss : List Step) → uncut p b ss ≡ true → parts_of p b ss ≡ plain_parts p b (map call_of ss)
unfolding parts_of plain_parts
uncut_parts p b [] h = refl
uncut_parts p b (s ∷ ss) h =
    let u = first_uncut p b s ss h in
    ap₂ {C = List Part} (λ x y. x ++ y) (uncut_by p b s u.0)
    (uncut_parts p (leaves p b s) ss u.1 ∙ ap (λ (x : Board). plain_parts p x (map call_of ss)) (uncut_leaves p b s u.0))

pub uncut_trace : (p : Params) (b : Board) (ss : List Step) → uncut p b ss ≡ true → trace_of p b ss ≡ plain_trace p b (map call_of ss)
unfolding trace_of plain_trace plain_parts
uncut_trace p b [] h = unfold ops_of in refl
uncut_trace p b (s ∷ ss) h =
    let u = first_uncut p b s ss h in
    ap₂ {C = List Op} (λ x y. x ++ y) (uncut_made p b s u.0)
    (uncut_trace p (leaves p b s) ss u.1 ∙ ap (λ (x : Board). plain_trace p x (map call_of ss)) (uncut_leaves p b s u.0))
    ∙ sym (ops_append (work_of p b (call_of s)).parts (plain_parts p (plain_leaves p b (call_of s)) (map call_of ss)))

-- ---- from a format on

module _ (p : Params) (b : Board) (ss : List Step) where
  pub first_plain : leaves p b (plain format) ≡ plain_leaves p b format
  unfolding call_of is_cut
  first_plain = uncut_leaves p b (plain format) refl

  module _ (u : uncut p (leaves p b (plain format)) ss ≡ true) where
    whole : uncut p b (plain format ∷ ss) ≡ true
    unfolding uncut is_cut
    whole = u

    pub format_board : board_after p b (plain format ∷ ss) ≡ plain_board p b (format ∷ map call_of ss)
    unfolding call_of
    format_board = uncut_board p b (plain format ∷ ss) whole

    pub format_parts : parts_of p b (plain format ∷ ss) ≡ plain_parts p b (format ∷ map call_of ss)
    unfolding call_of
    format_parts = uncut_parts p b (plain format ∷ ss) whole

    pub after_format : parts_of p (leaves p b (plain format)) ss ≡ plain_parts p (plain_leaves p b format) (map call_of ss)
    after_format = uncut_parts p (leaves p b (plain format)) ss u ∙ ap (λ (x : Board). plain_parts p x (map call_of ss)) first_plain

-- ---- calls without budgets are not cut

pub plain_uncut : (p : Params) (b : Board) (cs : List Call) → uncut p b (map plain cs) ≡ true
unfolding uncut is_cut
plain_uncut p b [] = refl
plain_uncut p b (c ∷ cs) = plain_uncut p (leaves p b (plain c)) cs

pub plain_calls : (cs : List Call) → map call_of (map plain cs) ≡ cs
unfolding call_of
plain_calls [] = refl
plain_calls (c ∷ cs) = ap (λ (ds : List Call). c ∷ ds) (plain_calls cs)

-- ---- nor are those of a run without a cut, a format or a start

pub undisturbed_uncut : (p : Params) (b : Board) (ss : List Step) → undisturbed p b ss ≡ true → (uncut p b ss ≡ true) × (plain_undisturbed (map call_of ss) ≡ true)
unfolding undisturbed uncut plain_undisturbed
undisturbed_uncut p b [] h = (refl, refl)
undisturbed_uncut p b (s ∷ ss) h =
    let more = and_right (not (is_cut p b s)) h in
    let below = undisturbed_uncut p (leaves p b s) ss (and_right (not (resets (call_of s))) more) in
    (and_intro (and_left (not (is_cut p b s)) _ h) below.0, and_intro (and_left (not (resets (call_of s))) _ more) below.1)
