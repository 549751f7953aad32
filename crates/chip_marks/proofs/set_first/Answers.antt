-- `chip_marks::set_first`: after j turns the first j words are those of the first k frames.
-- Assumes nothing.
use mathlib.Core.Path.{◌∙◌, ◌≡◌}
use native.Mathlib.Omega.{arith}
use Rattle.marks.proofs.Tables.{first_end, first_start}
use Rattle.chip_marks.proofs.Turns.{first_stored}
use Rattle.chip_marks.proofs.set_first.Goals as goal

pub loop-j-init : goal.loop-j-init
loop-j-init c m e = e ∙ first_start _ m _ _ _

pub loop-j-preserved : goal.loop-j-preserved
loop-j-preserved c m e =
    let x = c.args in
    first_stored x.p m c.loop-j.marks x.r x.v.0 x.k c.loop-j.j c.word_index-i.result c.in_word-n.result c.first_bits.result
    (c.loop-j.invariant m e) c.requires.region c.requires.vblock c.loop-j-test.true c.word_index-i.ensures.value c.in_word-n.ensures c.first_bits.ensures

pub returns : goal.returns
returns c m e =
    let x = c.args in
    let q : c.loop-j.j ≡ 4 = omega arith in
    c.loop-j.invariant m e ∙ rw q (first_end x.p m x.r x.v.0 x.k)
