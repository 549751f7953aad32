-- `chip_erased::is_erased`: the words are full exactly if the rows passed so far are 255, and what is left behind the last row decides the rest.
-- Assumes nothing.
use mathlib.Core.Path.{sym, ◌≡◌}
use mathlib.Core.Bool.{◌&&◌, Bool}
use mathlib.Core.List.{List}
use Prim.Native.Nat.{◌*◌, ◌+◌, ◌-◌, ◌/◌, ℕ}
use native.Mathlib.Omega.{arith}
use lib.ListN.{drop, length, length-drop, take}
use lib.Seq.{take_all}
use Rattle.lists.specs.Parts.{all_are}
use Rattle.loops.proofs.Elements.{all_none, all_pieces, parts_next}
use Rattle.loops.proofs.Lent.{lent_part}
use Rattle.chip_erased.specs.Full.{full, ones}
use Rattle.chip_erased.proofs.is_erased.Goals as goal

pub loop-i-init : goal.loop-i-init
unfolding full ones
loop-i-init c = all_none 255 c.args.part.now

next : (l : List ℕ) (i : ℕ) (t u : Bool) → t ≡ all_are 255 (take (i * 64) l) → u ≡ t && all_are 255 (take (i * 64 + 64 - i * 64) (drop (i * 64) l)) → u ≡ all_are 255 (take ((i + 1) * 64) l)
next l i t u h e = rw (parts_next 255 64 i l, sym h, sym (lent_part 64 i l)) e

pub loop-i-preserved : goal.loop-i-preserved
loop-i-preserved c = next c.args.part.now c.loop-i.i _ _ c.loop-i.invariant c.gather-w.ensures

pub returns : goal.returns
returns c =
    let l = c.args.part.now in
    let z : ℕ = length l / 64 * 64 in
    let i : c.loop-i.i ≡ length l / 64 = omega arith in
    let t : take (length l - z) (drop z l) ≡ drop z l = take_all (length l - z) (drop z l) (simp length-drop (omega arith)) in
    rw (c.is_full.ensures, c.row_erased.ensures, c.loop-i.invariant, i, t) (sym (all_pieces 255 z l))
