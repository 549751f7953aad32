-- `check_marks::held_ok`: every word passed has marks of valid frames alone, of any view that shows the lent bytes.
-- Assumes nothing.
use mathlib.Core.Path.{ap, sym, ◌∙◌}
use native.Mathlib.Omega.{arith}
use Rattle.loops.proofs.Below.{all_end, all_fails, all_more, all_start}
use Rattle.rules.specs.Marks.{marked}
use Rattle.check_marks.specs.Shown.{only_in}
use Rattle.check_marks.proofs.held_ok.Goals as goal

pub loop-w-init : goal.loop-w-init
loop-w-init c = (omega arith, λ vw s. all_start _)

pub word_at-requires : goal.word_at-requires
word_at-requires c =
    record {
      words_asked = c.requires.words_asked;
      w_bound = c.loop-w-test.true;
    }

pub word_ok-requires : goal.word_ok-requires
word_ok-requires c =
    record {
      one_block = c.requires.one_block;
      w_bound = c.loop-w-test.true;
    }

pub returns-then-not-word_ok : goal.returns-then-not-word_ok
returns-then-not-word_ok c =
    λ vw s. sym (all_fails _ c.loop-w.w _ c.loop-w-test.true
    (ap (only_in (marked c.args.p vw c.args.v.0) c.loop-w.w) (sym c.word_at.ensures) ∙ sym (c.word_ok.ensures _ vw s) ∙
    c.if-not-word_ok.true))

pub loop-w-preserved : goal.loop-w-preserved
loop-w-preserved c = (
  omega arith,
  λ vw s.
      all_more _ _ (c.loop-w.invariant.1 vw s)
      (ap (only_in (marked c.args.p vw c.args.v.0) c.loop-w.w) (sym c.word_at.ensures) ∙ sym (c.word_ok.ensures _ vw s)
      ∙ c.if-not-word_ok.false),
)

pub returns : goal.returns
returns c = λ vw s. sym (all_end _ _ _ (omega arith) (c.loop-w.invariant.1 vw s))
