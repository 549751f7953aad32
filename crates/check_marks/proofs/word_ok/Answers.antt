-- `check_marks::word_ok`: each bit passed is that of a valid frame or clear; what is left of the word has the other bits.
-- Assumes nothing.
use mathlib.Core.Path.{ap, sym, ◌∙◌}
use mathlib.Core.Bool.{not, ◌||◌}
use Prim.Native.Nat.{ℕ, ◌*◌, ◌+◌, ◌/◌, ◌%◌, ◌<◌}
use native.Mathlib.Nat.{add_assoc, add-zero, div-one}
use native.Mathlib.Omega.{arith}
use lib.Dec.{eqb}
use borrow.Author.Tests.{not-false, not-true}
use Rattle.loops.proofs.Below.{all_more, all_start}
use Rattle.rules.specs.Marks.{marked}
use Rattle.check_marks.proofs.Words.{half, only_done, only_fails, turns, zero_only}
use Rattle.check_marks.proofs.word_ok.Goals as goal
use Rattle.check_marks.proofs.word_ok.Goals.{In-loop-rest}

pub returns-then-word-eq0 : goal.returns-then-word-eq0
returns-then-word-eq0 c = λ r vw s. sym (zero_only _ c.args.w _ c.if-word-eq0.true)

pub first_place-k-requires : goal.first_place-k-requires
first_place-k-requires c =
    record {
      p_value = c.requires.one_block.fine;
      w_bound = c.requires.w_bound;
    }

pub loop-rest-init : goal.loop-rest-init
loop-rest-init c = (omega arith, c.first_place-k.ensures ∙ ap (λ (x : ℕ). x / c.args.p.beta) (sym (add-zero (64 * c.args.w))), sym (div-one c.args.word), λ r vw s. all_start _)

left : (c : In-loop-rest) → c.loop-rest.i < 64
left c =
    turns _ _ _ c.ranges.word.fits c.loop-rest.invariant.0 c.loop-rest.invariant.2 (omega (arith, c.loop-rest-test.true))

pub overflow_mul-f : goal.overflow_mul-f
overflow_mul-f c = omega (arith, c.requires.w_bound)

pub overflow_add-f : goal.overflow_add-f
overflow_add-f c = omega (arith, c.requires.w_bound, left (goal.at.overflow_add-f c).In-loop-rest)

pub mark_ok-requires : goal.mark_ok-requires
mark_ok-requires c =
    record {
      one_block = c.requires.one_block;
      k_value = c.loop-rest.invariant.1;
    }

pub returns-then-not-mark_ok : goal.returns-then-not-mark_ok
returns-then-not-mark_ok c =
    λ r vw s. sym (only_fails (marked c.args.p vw c.args.v.0) c.args.w c.args.word c.loop-rest.i (left (goal.at.returns-then-not-mark_ok c).In-loop-rest)
    (ap (λ (x : ℕ). not (eqb (x % 2) 1) || marked c.args.p vw c.args.v.0 (64 * c.args.w + c.loop-rest.i)) (sym c.loop-rest.invariant.2) ∙ sym
    (c.mark_ok.ensures r vw s) ∙ not-true _ c.if-not-mark_ok.true-raw))

pub next_place-k-requires : goal.next_place-k-requires
next_place-k-requires c =
    record {
      p_value = c.requires.one_block.fine;
      f_bound = omega (arith, c.requires.w_bound, left (goal.at.next_place-k-requires c).In-loop-rest);
      k_value = c.loop-rest.invariant.1;
    }

pub overflow_add-i : goal.overflow_add-i
overflow_add-i c = omega (arith, left (goal.at.overflow_add-i c).In-loop-rest)

pub loop-rest-smaller : goal.loop-rest-smaller
loop-rest-smaller c = omega (arith, left (goal.at.loop-rest-smaller c).In-loop-rest)

pub loop-rest-preserved : goal.loop-rest-preserved
loop-rest-preserved c = (
  omega (arith, left (goal.at.loop-rest-preserved c).In-loop-rest),
  c.next_place-k.ensures ∙ ap (λ (x : ℕ). x / c.args.p.beta) (add_assoc (64 * c.args.w) c.loop-rest.i 1),
  half _ _ _ c.loop-rest.invariant.2,
  λ r vw s.
      all_more _ _ (c.loop-rest.invariant.3 r vw s)
      (ap (λ (x : ℕ). not (eqb (x % 2) 1) || marked c.args.p vw c.args.v.0 (64 * c.args.w + c.loop-rest.i))
      (sym c.loop-rest.invariant.2) ∙ sym (c.mark_ok.ensures r vw s) ∙ not-false _ c.if-not-mark_ok.false-raw),
)

pub returns : goal.returns
returns c =
    λ r vw s. sym (only_done (marked c.args.p vw c.args.v.0) c.args.w c.args.word c.loop-rest.i
    (sym c.loop-rest.invariant.2 ∙ omega (arith, c.loop-rest-test.false)) (c.loop-rest.invariant.3 r vw s))
