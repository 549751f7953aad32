-- `write_reclaim::move_marked`: moved where the mark is set.
-- Assumes nothing.
use mathlib.Core.Path.{◌≡◌, sym, ◌∙◌}
use mathlib.Core.Bool.{true}
use native.Mathlib.Omega.{arith}
use Rattle.rules.proofs.Sizes.{sizes}
use Rattle.write_reclaim.proofs.Places.{moved_yes, moved_no}
use Rattle.write_reclaim.proofs.move_marked.Goals as goal

pub is_marked-requires : goal.is_marked-requires
is_marked-requires c = record { words = c.requires.words_asked; frame = omega (arith, c.requires.move_asked.copy.from.frame, (sizes _ c.requires.words_asked.fine).short) }

pub returns-then-is_marked : goal.returns-then-is_marked
returns-then-is_marked c m e =
    let passed : c.is_marked.result ≡ true = c.if-is_marked.true in
    moved_yes _ _ _ _ _ _ _ _ _ _ _ (sym (c.is_marked.ensures m e) ∙ passed) c.move_frame.ensures

pub returns : goal.returns
returns c m e = moved_no _ _ _ _ _ _ _ _ _ (sym (c.is_marked.ensures m e) ∙ c.if-is_marked.false)
