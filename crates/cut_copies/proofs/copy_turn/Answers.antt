-- `cut_copies::copy_turn`: copied where the mark is set and a page is left.
-- Assumes nothing.
use mathlib.Core.Path.{refl, sym, ◌∙◌}
use Prim.Native.Nat.{◌≤◌}
use native.Mathlib.Nat.{mul-le-mul}
use native.Mathlib.Omega.{arith}
use borrow.Author.Tests.{not-false, not-true}
use Rattle.rules.proofs.Sizes.{sizes}
use Rattle.cut_copies.proofs.Turns.{turn_no, turn_past, turn_yes}
use Rattle.cut_copies.proofs.copy_turn.Goals as goal

pub is_marked-requires : goal.is_marked-requires
is_marked-requires c = record { words = c.requires.words_asked; frame = omega (arith, c.requires.turn_asked.frame, (sizes _ c.requires.turn_asked.fine).short) }

pub returns-then-not-is_marked : goal.returns-then-not-is_marked
returns-then-not-is_marked c m e = turn_no _ _ _ _ _ _ _ _ (sym (c.is_marked.ensures m e) ∙ not-true _ c.if-not-is_marked.true-raw)

pub overflow_mul-made : goal.overflow_mul-made
overflow_mul-made c =
    let a = c.requires.turn_asked in
    let low : c.args.j ≤ 256 = omega (arith, a.frame, a.few, (sizes _ a.fine).short) in
    record { fits = omega (arith, mul-le-mul low (sizes _ a.fine).alpha_high) }

pub copy_part-requires : goal.copy_part-requires
copy_part-requires c =
    record {
      copy_asked = c.requires.turn_asked.copy c.if-made-k.true;
      m_le_alpha = omega (arith, c.least-m.ensures);
    }

pub returns-then-made-k : goal.returns-then-made-k
returns-then-made-k c m e = turn_yes _ _ _ _ _ _ _ _ (sym (c.is_marked.ensures m e) ∙ not-false _ c.if-not-is_marked.false-raw) _ _ refl c.least-m.ensures _ c.copy_part.ensures

pub returns-else-made-k : goal.returns-else-made-k
returns-else-made-k c m e = turn_past _ _ _ _ _ _ _ _ (sym (c.is_marked.ensures m e) ∙ not-false _ c.if-not-is_marked.false-raw) (omega (arith, c.if-made-k.false))
