-- What the test of the marks asks, a virtual block that passed its own test gives: a block that BT names is one of the chip, and it passes its rule, so that a
-- frame of it is erased or holds a cluster of its region.
-- Assumes nothing.
use mathlib.Core.Path.{◌≡◌, refl}
use mathlib.Core.Bool.{true}
use mathlib.Core.List.{List}
use Prim.Native.Nat.{ℕ, ◌<◌}
use native.Mathlib.Decide.{dec_lt}
use native.Mathlib.Omega.{arith}
use lib.Dec.{eqb, ltb}
use borrow.Author.Tests.{ne_eqb}
use Rattle.lists.proofs.Tests.{and_right, never}
use Rattle.rules.specs.declared.Params.{Params}
use Rattle.rules.specs.Orderly.{block_rule}
use Rattle.rules.specs.Pages.{block, filled, frame, programmed}
use Rattle.rules.specs.Parameters.{frames}
use Rattle.rules.specs.Tables.{bst_at, bt_at, none}
use Rattle.rules.proofs.Frames.{erased_not}
use Rattle.rules.proofs.RegionFacts.{GoodFrame, UpTo, up_to}
use Rattle.check_tables.specs.Entries.{differs}
use Rattle.check_rules.specs.Check.{vblock_ok}
use Rattle.check_blocks.proofs.Blocks.{name_low}
use Rattle.check_marks.specs.Shown.{CheckAsked}
use Rattle.check_marks.proofs.Asked.{block_mine}
use Rattle.check_board.specs.Order.{BlocksAsked}

-- a programmed frame of a block of region r is a good one
pub good : (p : Params) (r v : ℕ) (blk : List ℕ) → block_rule p r v blk ≡ true → (f : ℕ) → f < frames p → programmed p (frame p blk f) ≡ true → GoodFrame p r v (frame p blk f)
unfolding block_rule
good p r v blk h f low e = go (dec_lt f (filled p blk)) (up_to p r v (filled p blk) blk (and_right (ltb 0 (filled p blk)) h))
  where
    go : Dec (f < filled p blk) → UpTo p r v (filled p blk) blk → GoodFrame p r v (frame p blk f)
    go (yes a) u = u.front f a low
    go (no a) u = absurd (never e (erased_not p (frame p blk f) (u.rest f (omega arith) low)))

module _ (p : Params) (chip bt bst : List ℕ) (r v : ℕ) (ok : vblock_ok p chip bt bst r v ≡ true) where
  pub rule_of_block : (bt_at p bt r v ≡ none → ⊥) → block_rule p r v (block p chip (bt_at p bt r v)) ≡ true
  unfolding vblock_ok
  rule_of_block ne =
      and_right (eqb (bst_at bst (bt_at p bt r v)) 1) (and_right (differs p bt r v) (rw (ne_eqb (bt_at p bt r v) none ne) at ok))

  pub check_asked : (ct marks : List ℕ) → BlocksAsked p chip ct bt bst marks → r < p.mu → v < p.gamma → CheckAsked p chip ct bt marks r v
  check_asked ct marks a region low =
      record {
        fine = a.lent.fine;
        chip_length = a.lent.chip_length;
        ct_length = a.ct_length;
        bt_length = a.lent.bt_length;
        marks_long = a.marks_long;
        region = region;
        low = low;
        named = λ ne. (name_low p chip bt a.lent r v _ region low refl ne, block_mine p a.lent.fine r v (block p chip (bt_at p bt r v)) (rule_of_block ne));
      }
