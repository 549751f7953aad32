-- `demo::take_all`: one byte more is taken after those that are passed.
-- Assumes nothing.
use Rattle.std.proofs.Common.{◌<◌, length, add-one, arith}
use lib.Seq.{take-suc}
use Rattle.demo.proofs.Served.{then_taken}
use Rattle.demo.proofs.take_all.Goals as goal

pub loop-b-preserved : goal.loop-b-preserved
loop-b-preserved g c = λ begun i.
    let p = c.loop-b.invariant begun i in
    let h : c.loop-b.b-index < length c.args.s.now = omega arith in
    rw (add-one, take-suc c.args.s.now c.loop-b.b-index 0 h) (then_taken p (c.in_ok-h.ensures p.begun p.holds))
