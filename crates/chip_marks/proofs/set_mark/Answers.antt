-- `chip_marks::set_mark`: the word that is stored is the one that was read, with one bit set.
-- Assumes nothing.
use mathlib.Core.Bool.{true}
use Prim.Native.Nat.{◌*◌, ◌+◌, ◌/◌}
use native.Mathlib.Omega.{arith}
use Rattle.chip_marks.proofs.Turns.{put_mark_lem, word_read}
use Rattle.chip_marks.proofs.set_mark.Goals as goal

pub returns : goal.returns
returns c m e =
    let x = c.args in
    let q = c.requires.words in
    put_mark_lem x.p m x.marks.now x.r x.v.0 x.f c.word_index-i.result c.with_bit.result true e q.region q.vblock c.requires.frame c.word_index-i.ensures.value
    (c.with_bit.ensures (λ j. m x.r x.v.0 (64 * (x.f / 64) + j))
    (word_read x.p m x.marks.now x.r x.v.0 (x.f / 64) c.word_index-i.result e q.region q.vblock (omega (arith, c.requires.frame)) c.word_index-i.ensures.value))
