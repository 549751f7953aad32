-- `write_reclaim::copy_marked`: after f turns those of the first f frames are copied that have a mark, by any marks that the table holds.
-- Assumes nothing.
use mathlib.Core.Path.{◌≡◌}
use Prim.Native.Nat.{◌<◌}
use native.Mathlib.Omega.{arith}
use Rattle.rules.specs.Parameters.{frames}
use Rattle.rules.proofs.Sizes.{sizes}
use Rattle.write_reclaim.proofs.Copies.{start, ct_length_lem, chip_length_lem, move_asked, turn, turn_few, done, holds}
use Rattle.write_reclaim.proofs.copy_marked.Goals as goal

pub loop-f-init : goal.loop-f-init
loop-f-init c = λ a m e. start _ _ _ _ _ _ a _

pub move_marked-k-requires : goal.move_marked-k-requires
move_marked-k-requires c =
    let low : c.loop-f.f < frames c.args.p = omega (arith, c.frames-f-end.ensures, c.loop-f-test.true) in
    let e = holds c.args.p c.args.marks.now c.requires.words_asked.long c.shared_slice_known-1.given in
    record {
      move_asked = move_asked _ _ _ _ _ _ c.requires.from_to _ _ low _ _ _ (c.loop-f.invariant c.requires.from_to _ e);
      words_asked = c.requires.words_asked;
    }

pub overflow_add-k : goal.overflow_add-k
overflow_add-k c =
    let low : c.loop-f.f < frames c.args.p = omega (arith, c.frames-f-end.ensures, c.loop-f-test.true) in
    let e = holds c.args.p c.args.marks.now c.requires.words_asked.long c.shared_slice_known-1.given in
    omega (arith, turn_few _ _ _ _ _ _ c.requires.from_to _ _ low _ _ _ (c.loop-f.invariant c.requires.from_to _ e) _ _ _ (c.move_marked-k.ensures _ e), low, (sizes _ c.requires.words_asked.fine).short)

pub loop-f-preserved : goal.loop-f-preserved
loop-f-preserved c =
    let low : c.loop-f.f < frames c.args.p = omega (arith, c.frames-f-end.ensures, c.loop-f-test.true) in
    λ a m e. turn _ _ _ _ _ _ a _ _ low _ _ _ (c.loop-f.invariant a m e) _ _ _ (c.move_marked-k.ensures m e)

pub shape_of-chip : goal.shape_of-chip
shape_of-chip c =
    let e = holds c.args.p c.args.marks.now c.requires.words_asked.long c.shared_slice_known-1.given in
    chip_length_lem _ _ _ _ _ _ c.requires.from_to _ _ (omega (arith, c.frames-f-end.ensures)) _ _ _ (c.loop-f.invariant c.requires.from_to _ e)

pub shape_of-ct : goal.shape_of-ct
shape_of-ct c =
    let e = holds c.args.p c.args.marks.now c.requires.words_asked.long c.shared_slice_known-1.given in
    ct_length_lem _ _ _ _ _ _ c.requires.from_to _ _ _ _ _ (c.loop-f.invariant c.requires.from_to _ e)

pub returns : goal.returns
returns c m e =
    let q : c.loop-f.f ≡ frames c.args.p = omega (arith, c.loop-f-test.false, c.frames-f-end.ensures) in
    done _ _ _ _ _ _ c.requires.from_to _ _ _ _ _ q (c.loop-f.invariant c.requires.from_to m e)
