-- `chip_marks::is_marked`: the bit of the word that is read is the mark.
-- Assumes nothing.
use Prim.Native.Nat.{◌*◌, ◌+◌, ◌/◌}
use native.Mathlib.Omega.{arith}
use Rattle.chip_marks.proofs.Turns.{mark_read, word_read}
use Rattle.chip_marks.proofs.is_marked.Goals as goal

pub returns : goal.returns
returns c m e =
    let x = c.args in
    let q = c.requires.words in
    mark_read (m x.r x.v.0) x.f c.has_bit.result
    (c.has_bit.ensures (λ j. m x.r x.v.0 (64 * (x.f / 64) + j))
    (word_read x.p m x.marks.now x.r x.v.0 (x.f / 64) c.word_index-i.result e q.region q.vblock (omega (arith, c.requires.frame)) c.word_index-i.ensures.value))
