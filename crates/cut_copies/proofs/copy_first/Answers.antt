-- `cut_copies::copy_first`: after f turns those of the first f frames that have a mark are copied as far as the k pages go, by any marks that the table holds.
-- Assumes nothing.
use mathlib.Core.Path.{◌≡◌, ◌∙◌}
use Prim.Native.Nat.{◌<◌}
use native.Mathlib.Omega.{arith}
use borrow.Author.Rules.{rules}
use Rattle.rules.specs.Parameters.{frames}
use Rattle.rules.proofs.Sizes.{sizes}
use Rattle.write_reclaim.proofs.Copies.{holds}
use Rattle.cut_copies.proofs.Turns.{start, turn_asked, turn, turn_few, done}
use Rattle.cut_copies.proofs.copy_first.Goals as goal

pub loop-f-init : goal.loop-f-init
loop-f-init c = (search rules, λ a m e. start _ _ _ _ a _ _)

pub copy_turn-j-requires : goal.copy_turn-j-requires
copy_turn-j-requires c =
    let low : c.loop-f.f < frames c.args.p = omega (arith, c.frames-f-end.ensures, c.loop-f-test.true) in
    let e = holds c.args.p c.args.marks.now c.requires.words_asked.long c.shared_slice_known-1.given in
    record {
      turn_asked = turn_asked _ _ _ _ c.requires.between _ _ _ low _ _ (c.loop-f.invariant.1 c.requires.between _ e);
      words_asked = c.requires.words_asked;
    }

pub overflow_add-j : goal.overflow_add-j
overflow_add-j c =
    let low : c.loop-f.f < frames c.args.p = omega (arith, c.frames-f-end.ensures, c.loop-f-test.true) in
    let e = holds c.args.p c.args.marks.now c.requires.words_asked.long c.shared_slice_known-1.given in
    omega (arith, turn_few _ _ _ _ c.requires.between _ _ _ low _ _ (c.loop-f.invariant.1 c.requires.between _ e) _ _ (c.copy_turn-j.ensures _ e), low, (sizes _ c.requires.words_asked.fine).short)

pub loop-f-preserved : goal.loop-f-preserved
loop-f-preserved c =
    let low : c.loop-f.f < frames c.args.p = omega (arith, c.frames-f-end.ensures, c.loop-f-test.true) in
    (c.chip-1.given ∙ c.loop-f.invariant.0, λ a m e. turn _ _ _ _ a _ _ _ low _ _ (c.loop-f.invariant.1 a m e) _ _ (c.copy_turn-j.ensures m e))

pub shape_of-chip : goal.shape_of-chip
shape_of-chip c = c.loop-f.invariant.0

pub returns : goal.returns
returns c m e =
    let q : c.loop-f.f ≡ frames c.args.p = omega (arith, c.loop-f-test.false, c.frames-f-end.ensures) in
    done _ _ _ _ c.requires.between _ _ _ _ _ q (c.loop-f.invariant.1 c.requires.between m e)
