-- `chip_marks::count_marks`: after w turns the marks of the first w words are counted.
-- Assumes nothing.
use Prim.Native.Nat.{◌*◌, ◌+◌}
use native.Mathlib.Omega.{arith}
use Rattle.chip_marks.proofs.Turns.{count_start, count_word, word_read}
use Rattle.chip_marks.proofs.count_marks.Goals as goal

pub loop-w-init : goal.loop-w-init
loop-w-init c = (omega arith, λ m e. count_start (m _ _))

pub loop-w-preserved : goal.loop-w-preserved
loop-w-preserved c =
    let x = c.args in
    let w = c.loop-w.w in (
      omega (arith, c.loop-w.invariant.0, c.count-n.ensures.upper_bound),
      λ m e.
          count_word (m x.r x.v.0) w c.loop-w.n c.count-n.result (c.loop-w.invariant.1 m e)
          (c.count-n.ensures.by_index (λ j. m x.r x.v.0 (64 * w + j))
          (word_read x.p m x.marks.now x.r x.v.0 w c.word_index-i.result e c.requires.region c.requires.vblock c.loop-w-test.true c.word_index-i.ensures.value)),
    )
