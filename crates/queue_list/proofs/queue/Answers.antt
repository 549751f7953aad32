-- `queue_list::queue`: a turn serves the first of the items that are left, its answer in its place; at the end none is left.
-- Assumes nothing.
use Rattle.std.proofs.Common.{◌∙◌, ◌≤◌, length, sym, refl, arith}
use Rattle.queue_turns.proofs.Served.{none_left}
use Rattle.queue_list.proofs.Folded.{all_refused, fold_is, itself, next_served}
use Rattle.queue_list.proofs.queue.Goals as goal

pub item-a-requires : goal.item-a-requires
item-a-requires c = c.loop-i.invariant.ready c.loop-i-test.true

pub loop-i-init : goal.loop-i-init
loop-i-init c = record {
  low = omega arith;
  served = refl;
  ready = λ k. c.in-Ok.ensures.1.ready;
}

pub loop-i-preserved : goal.loop-i-preserved
loop-i-preserved c =
    let fits : c.in-Ok.h.items ≤ length c.args.requests.now = omega (arith, c.in-Ok.ensures.1.counted) in
    record {
      low = omega arith;
      served = sym (next_served c.args.p c.args.bytes.now c.args.requests.now c.in-Ok.h.items c.loop-i.i _ _ _ _ _ _ c.loop-i-test.true fits refl
          c.item-a.ensures.answered c.item-a.ensures.left)
          ∙ c.loop-i.invariant.served;
      ready = λ h. c.item-a.ensures.ready;
    }

pub returns-in-Err : goal.returns-in-Err
returns-in-Err c = all_refused c.args.p c.args.bytes.now _ c.args.requests.now c.args.answers.now _ c.in-Err.ensures _ c.idle.ensures

pub returns : goal.returns
returns c =
    fold_is c.args.p c.args.bytes.now _ c.args.requests.now c.args.answers.now c.in-Ok.ensures.0 _ c.in-Ok.ensures.1 c.idle-2.result c.idle-2.ensures _ c.loop-i.answers
    (none_left itself c.args.p c.args.bytes.now c.args.requests.now _ c.loop-i.i _ _ c.loop-i-test.false ∙ c.loop-i.invariant.served)
