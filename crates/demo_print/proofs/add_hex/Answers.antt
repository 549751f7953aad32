-- `demo_print::add_hex`: two digits more for each byte.
use Rattle.std.proofs.Common.{arith, sym, append-nil}
use Rattle.demo_print.specs.Output.{hex}
use Rattle.demo_print.proofs.Digits.{hex_turn, two_more}
use Rattle.demo_print.proofs.add_hex.Goals as goal

pub loop-b-init : goal.loop-b-init
unfolding hex
loop-b-init g c = (sym (append-nil _), omega arith)

pub loop-b-preserved : goal.loop-b-preserved
loop-b-preserved g c =
    let w = c.loop-b in (
      rw (hex_turn c.args.bytes.now w.b-index c.loop-b-test.true, c.push-in-loop-b.ensures.items, c.push.ensures.items, w.invariant.0, c.digit.ensures, c.digit-in-loop-b.ensures)
          (two_more c.args.line.now.items _ _ _),
      omega (arith, w.invariant.1, c.push.ensures.len, c.push-in-loop-b.ensures.len),
    )
