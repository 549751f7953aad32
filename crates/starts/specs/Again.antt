-- What a start makes of two boards whose chips are the same, whatever their tables and their wear: the same, but that a block which it erases, one of those that are left over, may be
-- worn out by the one wear and not by the other.
-- Assumes nothing.
use Rattle.std.specs.Prelude.{ℕ, ◌<◌, ◌≡◌, Bool, false}
use Rattle.rules.specs.declared.Params.{Params}
use Rattle.rules.specs.Pages.{block}
use Rattle.rules.specs.Regions.{view}
use Rattle.rules.specs.Tables.{Board, bst_at}

-- b and b' are the same but for the wear and for the blocks that pass: BT, what every region sees, the stamps, the bytes of every other block and its kind. The marks follow from these
pub record SameBut (p : Params) (left : ℕ → Bool) (b b' : Board) : Type 0 where
  pub bt : b.bt ≡ b'.bt
  pub views : (r : ℕ) → r < p.mu → view p b r ≡ view p b' r
  pub stamps : b.stamps ≡ b'.stamps
  pub blocks : (n : ℕ) → left n ≡ false → block p b.chip n ≡ block p b'.chip n
  pub kinds : (n : ℕ) → n < p.N → left n ≡ false → bst_at b.bst n ≡ bst_at b'.bst n
