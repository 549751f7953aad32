-- `check_board::checked`: the tables, the free blocks, the regions, the counts.
-- Assumes nothing.
use mathlib.Core.Path.{sym, ◌∙◌}
use native.Mathlib.Omega.{arith}
use borrow.Author.Tests.{not-false, not-true}
use Rattle.rules.proofs.Sizes.{sizes}
use Rattle.check_board.specs.Order.{order_ok_to}
use Rattle.check_board.proofs.Counted.{lent_in}
use Rattle.check_board.proofs.checked.Goals as goal

pub returns-then-not-tables_ok : goal.returns-then-not-tables_ok
unfolding order_ok_to
returns-then-not-tables_ok c = rw (← c.tables_ok.ensures, not-true c.tables_ok.result c.if-not-tables_ok.true-raw)

pub returns-then-not-frees_ok : goal.returns-then-not-frees_ok
unfolding order_ok_to
returns-then-not-frees_ok c =
    rw (
      ← c.tables_ok.ensures,
      not-false c.tables_ok.result c.if-not-tables_ok.false-raw,
      ← c.frees_ok.ensures,
      not-true
          c.frees_ok.result c.if-not-frees_ok.true-raw,
    )

pub regions_ok-requires : goal.regions_ok-requires
regions_ok-requires c =
    record {
      blocks_asked = record {
        lent = lent_in _ _ _ _ _ _ c.requires.lengths (sym c.tables_ok.ensures ∙ not-false _ c.if-not-tables_ok.false-raw);
        ct_length = c.requires.lengths.ct_length;
        bst_length = c.requires.lengths.bst_length;
        marks_long = c.requires.marks_len;
      };
      fst_len = c.requires.lengths.fst_length;
      stamps_len = c.requires.stamps_len;
    }

pub returns-then-not-regions_ok : goal.returns-then-not-regions_ok
unfolding order_ok_to
returns-then-not-regions_ok c =
    rw (
      ← c.tables_ok.ensures,
      not-false c.tables_ok.result c.if-not-tables_ok.false-raw,
      ← c.frees_ok.ensures,
      not-false
          c.frees_ok.result c.if-not-frees_ok.false-raw,
      ← c.regions_ok.ensures,
      not-true c.regions_ok.result c.if-not-regions_ok.true-raw,
    )

pub counts_ok-requires : goal.counts_ok-requires
counts_ok-requires c = omega (arith, c.requires.marks_len, (sizes _ c.requires.lengths.fine).table_high)

pub returns : goal.returns
unfolding order_ok_to
returns c =
    rw (
      ← c.tables_ok.ensures,
      not-false c.tables_ok.result c.if-not-tables_ok.false-raw,
      ← c.frees_ok.ensures,
      not-false
          c.frees_ok.result c.if-not-frees_ok.false-raw,
      ← c.regions_ok.ensures,
      not-false c.regions_ok.result
          c.if-not-regions_ok.false-raw,
      ← c.counts_ok.ensures,
    )
