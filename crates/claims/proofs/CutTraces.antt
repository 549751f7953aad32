-- What a run makes of chip and wear, through any cuts: they are the replay of its operations, which fit the chip and are clean, so that no page is programmed twice. A call that is
-- cut makes the first of its operations; its lengths stay right, but its tables are not orderly.
-- Assumes nothing.
use mathlib.Core.Path.{◌≡◌, refl, ap, ◌∙◌}
use mathlib.Core.Logic.{◌⊎◌, inl, inr}
use Prim.Native.Nat.{ℕ, zero, suc, ◌*◌, ◌<◌}
use native.Mathlib.Omega.{arith}
use mathlib.Core.Bool.{true, false}
use mathlib.Core.List.{List, [], ◌∷◌, append-nil}
use lib.ListN.{length, get_or-replicate, length-replicate, take}
use borrow.Author.Tests.{eq-eqb, eqb-true}
use Rattle.lists.proofs.Tests.{all_true_lem, so, truths}
use Rattle.rules.specs.declared.Params.{Params}
use Rattle.rules.specs.Parameters.{allowed, chip_bytes}
use Rattle.rules.specs.Tables.{Board, bst_at, marks_length, none}
use Rattle.rules.specs.Orderly.{orderly}
use Rattle.rules.specs.Traces.{Op}
use Rattle.rules.specs.Requests.{Call}
use Rattle.rules.specs.Replies.{lengths_fit}
use Rattle.rules.specs.Calls.{Outcome, ops_of, work_of}
use Rattle.rules.specs.Cuts.{Step, call_of, cut_board, cut_outcome, is_cut, limited, plain}
use Rattle.rules.proofs.Sizes.{sizes}
use Rattle.rules.proofs.TableFacts.{tables_in}
use Rattle.rules.proofs.Writes.{wear_length_lem}
use Rattle.starts.proofs.Prefixes.{clean_take}
use Rattle.claims.specs.Runs.{AllFit, board_after, leaves, made_by, NoPageTwice, trace_of}
use Rattle.claims.proofs.Budgets.{cut_outcome_lem}
use Rattle.claims.proofs.Kept.{Replayed, more_made, none_made, run_long, run_made}
use Rattle.claims.proofs.Once.{clean_once, replay_length}
use Rattle.claims.proofs.PlainRuns.{plain_board, plain_leaves, plain_parts, plain_trace, uncut_leaves, uncut_made}

-- ---- tables all ones

module _ (p : Params) (b : Board) (lengths : lengths_fit p b ≡ true) (ops : List Op) (fit : AllFit p ops) where
  pub cut_long : lengths_fit p (cut_board p b ops) ≡ true
  unfolding lengths_fit cut_board
  cut_long =
      let l = truths _ lengths in
      all_true_lem _ (
        eq-eqb _ _ (replay_length p b.chip ops (eqb-true _ _ l.0) fit),
        (
          eq-eqb _ _ (length-replicate p.C none),
          (
            eq-eqb _ _ (length-replicate (p.mu * p.gamma) none),
            (
              eq-eqb _ _ (length-replicate p.mu none),
              (
                eq-eqb _ _ (length-replicate p.N 255),
                (
                  eq-eqb _ _ (wear_length_lem b.wear ops ∙ eqb-true _ _ l.1.1.1.1.1.0),
                  (
                    eq-eqb _ _ (length-replicate (marks_length p) 18446744073709551615),
                    (eq-eqb _ _ (length-replicate p.mu 4294967295), tt),
                  ),
                ),
              ),
            ),
          ),
        ),
      )

  kind_ones : 0 < p.N → bst_at (cut_board p b ops).bst 0 ≡ 255
  unfolding bst_at cut_board
  kind_ones h = get_or-replicate p.N 0 255 0 h

  -- BST has 255, which is no kind of block
  pub cut_disorder : allowed p ≡ true → orderly p (cut_board p b ops) ≡ false
  cut_disorder fine = go (so (orderly p (cut_board p b ops)))
    where
      go : (orderly p (cut_board p b ops) ≡ true) ⊎ (orderly p (cut_board p b ops) ≡ false) → orderly p (cut_board p b ops) ≡ false
      go (inl e) =
          let t = tables_in p (cut_board p b ops) cut_long e in
          let some : 0 < p.N = (sizes p fine).present in
          absurd (omega (arith, t.kinds 0 some, kind_ones some))
      go (inr e) = e

-- ---- one call

pub first_fit : (p : Params) (k : ℕ) (os : List Op) → AllFit p os → AllFit p (take k os)
first_fit p zero os h = tt
first_fit p (suc k) [] h = tt
first_fit p (suc k) (o ∷ os) h = (h.0, first_fit p k os h.1)

pub call_made : (p : Params) (b : Board) (c : Call) → Replayed p b (plain_leaves p b c) (ops_of (work_of p b c).parts)
unfolding plain_board plain_trace plain_parts
call_made p b c = rw (append-nil (work_of p b c).parts) at (run_made p b (c ∷ []))

pub cut_leaves : (p : Params) (b : Board) (k : ℕ) (c : Call) → is_cut p b (limited k c) ≡ true → leaves p b (limited k c) ≡ cut_board p b (take k (ops_of (work_of p b c).parts))
unfolding leaves cut_outcome
cut_leaves p b k c e = ap (λ (o : Outcome). o.board) (cut_outcome_lem p b k c e)

first_made : (p : Params) (b b' : Board) (k : ℕ) (ops : List Op) → Replayed p b b' ops → Replayed p b (cut_board p b (take k ops)) (take k ops)
unfolding cut_board
first_made p b b' k ops h = record { chip = refl; wear = refl; erased = clean_take p b.chip k ops h.erased; fits = first_fit p k ops h.fits }

cut_made : (p : Params) (b : Board) (k : ℕ) (c : Call) → is_cut p b (limited k c) ≡ true → made_by p b (limited k c) ≡ take k (ops_of (work_of p b c).parts)
unfolding made_by
cut_made p b k c e = rw e

whole_made : (p : Params) (b : Board) (s : Step) → is_cut p b s ≡ false → Replayed p b (leaves p b s) (made_by p b s)
whole_made p b s e = rw (uncut_leaves p b s e, uncut_made p b s e) (call_made p b (call_of s))

pub step_made : (p : Params) (b : Board) (s : Step) → Replayed p b (leaves p b s) (made_by p b s)
step_made p b (plain c) = whole_made p b (plain c) (unfold is_cut in refl)
step_made p b (limited k c) = go (so (is_cut p b (limited k c)))
  where
    go : (is_cut p b (limited k c) ≡ true) ⊎ (is_cut p b (limited k c) ≡ false) → Replayed p b (leaves p b (limited k c)) (made_by p b (limited k c))
    go (inl e) = rw (cut_leaves p b k c e, cut_made p b k c e) (first_made p b (plain_leaves p b c) k (ops_of (work_of p b c).parts) (call_made p b c))
    go (inr e) = whole_made p b (limited k c) e

whole_long : (p : Params) (b : Board) (s : Step) → is_cut p b s ≡ false → lengths_fit p b ≡ true → lengths_fit p (leaves p b s) ≡ true
unfolding plain_board
whole_long p b s e h = rw (uncut_leaves p b s e) (run_long p b (call_of s ∷ []) h)

pub step_long : (p : Params) (b : Board) (s : Step) → lengths_fit p b ≡ true → lengths_fit p (leaves p b s) ≡ true
step_long p b (plain c) h = whole_long p b (plain c) (unfold is_cut in refl) h
step_long p b (limited k c) h = go (so (is_cut p b (limited k c)))
  where
    go : (is_cut p b (limited k c) ≡ true) ⊎ (is_cut p b (limited k c) ≡ false) → lengths_fit p (leaves p b (limited k c)) ≡ true
    go (inl e) = rw (cut_leaves p b k c e) (cut_long p b h (take k (ops_of (work_of p b c).parts)) (first_fit p k (ops_of (work_of p b c).parts) (call_made p b c).fits))
    go (inr e) = whole_long p b (limited k c) e h

-- ---- a run

pub trace_made : (p : Params) (b : Board) (ss : List Step) → Replayed p b (board_after p b ss) (trace_of p b ss)
unfolding board_after trace_of
trace_made p b [] = none_made p b
trace_made p b (s ∷ ss) = more_made p b (leaves p b s) _ (made_by p b s) (trace_of p (leaves p b s) ss) (step_made p b s) (trace_made p (leaves p b s) ss)

pub trace_long : (p : Params) (b : Board) (ss : List Step) → lengths_fit p b ≡ true → lengths_fit p (board_after p b ss) ≡ true
unfolding board_after
trace_long p b [] h = h
trace_long p b (s ∷ ss) h = trace_long p (leaves p b s) ss (step_long p b s h)

pub trace_once : (p : Params) (b : Board) (ss : List Step) → lengths_fit p b ≡ true → NoPageTwice (trace_of p b ss)
trace_once p b ss h = clean_once p b.chip (trace_of p b ss) size (trace_made p b ss).fits (trace_made p b ss).erased
  where
    size : length b.chip ≡ chip_bytes p
    size = unfold lengths_fit in eqb-true _ _ (truths _ h).0
