-- `check_board::frames_ok`: test by test.
-- Assumes nothing.
use mathlib.Core.Path.{sym, ◌∙◌}
use native.Mathlib.Omega.{arith}
use borrow.Author.Tests.{eq-eqb, eqb-true, ne_eqb, not-false, not-true}
use Rattle.lists.proofs.Tests.{never}
use Rattle.rules.specs.Numbers.{vblock_of}
use Rattle.rules.proofs.Sizes.{sizes}
use Rattle.check_board.specs.Order.{frames_ok}
use Rattle.check_board.proofs.frames_ok.Goals as goal

pub returns-then-k-eq0 : goal.returns-then-k-eq0
unfolding frames_ok
returns-then-k-eq0 c = rw (eq-eqb c.args.k 0 c.if-k-eq0.true)

pub frames-requires : goal.frames-requires
frames-requires c = c.requires.p_value

pub returns-then-ne : goal.returns-then-ne
unfolding frames_ok
returns-then-ne c =
    rw (
      ne_eqb c.args.k 0 c.if-k-eq0.false,
      ne_eqb c.args.v.0 _ (λ e. never (eq-eqb c.args.v.0 c.args.o.0 (e ∙ sym c.requires.o_value)) (not-true _ (sym c.ne.ensures ∙ c.if-ne.true))),
      c.frames.ensures,
    )

pub overflow_sub-k : goal.overflow_sub-k
overflow_sub-k c = omega arith

pub segment_of-requires : goal.segment_of-requires
segment_of-requires c =
    record {
      p_value = c.requires.p_value;
      v_lt_gamma = c.requires.v_lt_gamma;
      f_bound = omega (arith, c.requires.k_bound, (sizes _ c.requires.p_value).short, c.if-k-eq0.false);
    }

pub returns : goal.returns
unfolding frames_ok
returns c =
    rw (
      ne_eqb c.args.k 0 c.if-k-eq0.false,
      eq-eqb c.args.v.0 (vblock_of c.args.p c.args.sg.0) (eqb-true c.args.v.0 c.args.o.0 (not-false _ (sym c.ne.ensures ∙ c.if-ne.false)) ∙ c.requires.o_value),
      ← c.segment_of.ensures,
    )
    c.eq.ensures
