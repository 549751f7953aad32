-- `check_marks::none_ok`: every word is 0, which is the word without a mark.
-- Assumes nothing.
use mathlib.Core.Path.{refl, ◌∙◌}
use native.Mathlib.Omega.{arith}
use lib.Dec.{eqb}
use Rattle.std.proofs.Common.{rules, tests}
use Rattle.lists.proofs.Tests.{all_cong}
use Rattle.loops.proofs.Ranges.{all_run}
use Rattle.rules.specs.Tables.{mark_index, word_at}
use Rattle.check_marks.proofs.Words.{none_is}
use Rattle.check_marks.proofs.none_ok.Goals as goal

pub returns : goal.returns
unfolding word_at
returns c =
    all_run 4 (λ w. eqb (word_at c.args.marks.now (mark_index c.args.p c.args.r c.args.v.0 w)) 0) _ _ refl c.all.ensures.ran (λ x b q k. search (rules, tests))
    ∙ all_cong 4 _ _ (λ w l. none_is w _ (omega (arith, c.type_inv.marks (mark_index c.args.p c.args.r c.args.v.0 w))))
