-- `write_choose::victim`: after v turns, the best of the first v virtual blocks, by the marks that the table holds.
-- Assumes nothing.
use mathlib.Core.Path.{◌≡◌, ap, ◌∙◌}
use mathlib.Core.Bool.{true, false}
use native.Mathlib.Omega.{arith}
use lib.Dec.{ltb}
use borrow.Author.Tests.{le-ltb, lt-ltb}
use Rattle.lists.specs.Below.{count_below}
use Rattle.rules.proofs.Sizes.{sizes}
use Rattle.write_choose.specs.Search.{least_marked}
use Rattle.write_choose.proofs.Turns.{fewest_first, fewest_here, fewest_later}
use Rattle.write_choose.proofs.victim.Goals as goal
use Rattle.write_choose.proofs.victim.Goals.{then-k-fewest, else-k-fewest}

pub count_marks-fewest-requires : goal.count_marks-fewest-requires
count_marks-fewest-requires c =
    record { fine = c.requires.fine; long = c.requires.long; region = c.requires.region; vblock = (sizes _ c.requires.fine).vblocks }

pub loop-v-init : goal.loop-v-init
loop-v-init c = (omega arith, λ m e. (fewest_first _, c.count_marks-fewest.ensures m e))

pub loop-v-preserved : goal.loop-v-preserved
loop-v-preserved c =
    let z = sizes _ c.requires.fine in
    let inv = c.loop-v.invariant in
    elim c.if-k-fewest.branch [
      | then-k-fewest w ↦ (
        rw w.least-is (omega arith),
        λ m e.
            let h = inv.1 m e in
            let k = c.count_marks-k.ensures m e in
            let t : ltb (count_below 256 (m c.args.r c.loop-v.v)) (count_below 256 (m c.args.r c.loop-v.least.0)) ≡ true = rw (← k, ← h.1) (lt-ltb _ _ w.if-k-fewest.true) in
            (rw w.least-is (fewest_here _ _ _ (omega (arith, z.gamma_high)) inv.0 h.0 t), rw (w.fewest-is, w.least-is) k),
      )
      | else-k-fewest w ↦ (
        rw w.least-is (omega (arith, inv.0)),
        λ m e.
            let h = inv.1 m e in
            let k = c.count_marks-k.ensures m e in
            let t : ltb (count_below 256 (m c.args.r c.loop-v.v)) (count_below 256 (m c.args.r c.loop-v.least.0)) ≡ false = rw (← k, ← h.1) (le-ltb _ _ w.if-k-fewest.false) in
            (rw w.least-is (fewest_later _ _ _ (omega (arith, z.gamma_high)) inv.0 h.0 t), rw (w.fewest-is, w.least-is) h.1),
      )
    ]

pub returns : goal.returns
returns c m e =
    let q : c.loop-v.v ≡ c.args.p.gamma = omega (arith, (sizes _ c.requires.fine).vblocks) in
    (c.loop-v.invariant.1 m e).0 ∙ ap (least_marked m c.args.r) q
