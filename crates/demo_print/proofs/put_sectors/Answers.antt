-- `demo_print::put_sectors`: one sector more is the next part of the bytes, and at the end fewer than 16 bytes are left.
use Rattle.std.proofs.Common.{arith, ap, length, ◌∙◌, ◌≡◌, ◌-◌, ◌/◌, ◌*◌}
use Rattle.std.proofs.lemmas.List.{length_push}
use lib.ListN.{length-drop}
use Rattle.lists.specs.Below.{join_below}
use Rattle.demo_print.specs.Output.{sectors}
use Rattle.demo_print.proofs.Digits.{hex_length, sector_next, sectors_length, sectors_turn}
use Rattle.demo_print.proofs.Puts.{nothing, put_length, then}
use Rattle.demo_print.proofs.put_sectors.Goals as goal

pub loop-sector-init : goal.loop-sector-init
unfolding sectors join_below
loop-sector-init c =
    let s = c.chunks_exact-sector-items.ensures in
    rw c.into_iter-sector-iterator.ensures.into_iter_gives (nothing _ _, s.size, s.rest, omega arith)

pub put-end-requires : goal.put-end-requires
put-end-requires c =
    let w = c.loop-sector.invariant in
    let s = c.in-Some.ensures.steps in
    let x = c.in-Some.sector.now in
    let j = length c.loop-sector.yielded in
    let l = c.args.bytes.now in
    let k = sector_next l _ x _ j w.2 s.1.0 (s.1.1 ∙ w.1) w.3 in
    rw (c.as_slice.ensures.value, c.sector_text.ensures)
    (omega (arith, w.0.next, put_length w.0, hex_length x, s.1.1 ∙ w.1, sectors_length j l (omega arith), k.2))

pub loop-sector-preserved : goal.loop-sector-preserved
loop-sector-preserved c =
    let w = c.loop-sector.invariant in
    let s = c.in-Some.ensures.steps in
    let x = c.in-Some.sector.now in
    let j = length c.loop-sector.yielded in
    let l = c.args.bytes.now in
    let k = sector_next l _ x _ j w.2 s.1.0 (s.1.1 ∙ w.1) w.3 in
    let text = rw (c.as_slice.ensures.value, c.sector_text.ensures) at c.put-end.ensures in
    rw (length_push c.loop-sector.yielded c.in-Some.sector) (rw (sectors_turn j l, k.0) (then w.0 text), s.0 ∙ w.1, k.1, k.2)

pub returns : goal.returns
returns c =
    let w = c.loop-sector.invariant in
    let s = c.in-None.ensures.steps in
    let j = length c.loop-sector.yielded in
    let l = c.args.bytes.now in
    let left : length c.loop-sector.sector-iterator.rest.now ≡ length l - j * 16 = ap length w.2 ∙ length-drop (j * 16) l in
    let e : j ≡ length l / 16 = omega (arith, left, s.1, w.1, w.3) in
    record { put = rw e at w.0; upper_bound = omega (arith, w.0.next, sectors_length j l (omega arith)) }
