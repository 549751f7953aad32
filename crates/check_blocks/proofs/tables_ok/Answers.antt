-- `check_blocks::tables_ok`: BT's rule, then those of BST with the number of blocks that BT names.
-- Assumes nothing.
use mathlib.Core.Bool.{and-false}
use Rattle.rules.specs.Tables.{bt_entry}
use Rattle.check_tables.specs.Entries.{kinds_ok, used_ok}
use Rattle.check_rules.specs.Check.{tables_ok}
use Rattle.check_blocks.proofs.tables_ok.Goals as goal

pub returns-then-not-bt_ok : goal.returns-then-not-bt_ok
unfolding tables_ok
returns-then-not-bt_ok c = rw (← c.bt_ok.ensures, c.if-not-bt_ok.true, and-false)

pub returns : goal.returns
unfolding tables_ok used_ok kinds_ok bt_entry
returns c = rw (← c.bt_ok.ensures, c.if-not-bt_ok.false, ← c.requires.bt_len, ← c.count_named.ensures) c.kinds_ok.ensures
