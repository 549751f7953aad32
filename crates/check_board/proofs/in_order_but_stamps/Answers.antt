-- `check_board::in_order_but_stamps`: the check with no bound on the stamps, which the theorem says is the test of the other rules.
-- Assumes nothing.
use mathlib.Core.Path.{◌∙◌}
use native.Mathlib.Omega.{arith}
use Rattle.rules.specs.Tables.{word_at}
use Rattle.check_board.proofs.Stamped.{nine_rules_is}
use Rattle.check_board.proofs.in_order_but_stamps.Goals as goal

pub returns : goal.returns
unfolding word_at
returns c =
    let a = c.args in
    λ wear. c.checked.ensures ∙ nine_rules_is a.p a.chip.now a.ct.now a.bt.now a.fst.now a.bst.now a.marks.now c.requires.lengths c.requires.marks_len
    (λ i h. omega (arith, c.shared_slice_known-6-1.given i)) wear a.stamps.now
