-- `demo_print::print_read`: the letter and the reply, the sectors where the read is accepted, and the line's end, one after the other.
use Rattle.std.proofs.Common.{arith, eq-eqb, ne_eqb}
use Rattle.rules.specs.Replies.{is_accepted}
use Rattle.demo_print.specs.Output.{read_line}
use Rattle.demo_print.proofs.Digits.{decimal_length}
use Rattle.demo_print.proofs.Puts.{printed, then}
use Rattle.demo_print.proofs.print_read.Goals as goal
use Rattle.demo_print.proofs.print_read.Goals.{then-reply-eq0, else-reply-eq0}

pub returns : goal.returns
unfolding read_line is_accepted
returns c =
    let head = rw (c.as_slice.ensures.value, c.add_number.ensures.text, c.push.ensures.items, c.new-head.ensures) at c.put-end.ensures in
    let few = decimal_length c.from-reply.result in
    elim c.if-reply-eq0.branch [
      | then-reply-eq0 w ↦
          let end = rw (w.out-is, w.end-is) at c.put.ensures in
          rw (← c.from-reply.ensures, eq-eqb c.from-reply.result 0 (omega (arith, w.if-reply-eq0.true)))
          (printed (then head (then w.put_sectors-end.ensures.put end)) (omega (arith, head.next, few, w.put_sectors-end.ensures.upper_bound, end.next, c.requires)))
      | else-reply-eq0 w ↦
          let end = rw (w.out-is, w.end-is) at c.put.ensures in
          rw (← c.from-reply.ensures, ne_eqb c.from-reply.result 0 (λ q. w.if-reply-eq0.false (omega (arith, q))))
          (printed (then head end) (omega (arith, head.next, few, end.next, c.requires)))
    ]
