-- `check_board::in_order`: the check with the last stamps as bounds, which the theorem says is the rules' test.
-- Assumes nothing.
use mathlib.Core.Path.{◌∙◌}
use native.Mathlib.Omega.{arith}
use Rattle.rules.specs.Tables.{word_at}
use Rattle.check_board.proofs.Stamped.{in_order_is}
use Rattle.check_board.proofs.in_order.Goals as goal

pub returns : goal.returns
unfolding word_at
returns c =
    let a = c.args in
    λ wear. c.checked.ensures ∙ in_order_is a.p a.chip.now a.ct.now a.bt.now a.fst.now a.bst.now a.marks.now c.requires.lengths c.requires.marks_len
    (λ i h. omega (arith, c.shared_slice_known-6-1.given i)) wear a.stamps.now
