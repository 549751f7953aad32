-- `check_board::region_ok`: its FST entry, its virtual blocks.
-- Assumes nothing.
use native.Mathlib.Omega.{arith}
use borrow.Author.Tests.{not-false, not-true}
use Rattle.check_board.specs.Order.{region_held_to}
use Rattle.check_board.proofs.region_ok.Goals as goal

pub fst_at-sg-requires : goal.fst_at-sg-requires
fst_at-sg-requires c = omega (arith, c.requires.fst_len, c.requires.r_lt_mu)

pub entry_ok-requires : goal.entry_ok-requires
entry_ok-requires c =
    record {
      p_value = c.requires.blocks_asked.lent.fine;
      bt_len = c.requires.blocks_asked.lent.bt_length;
      r_lt_mu = c.requires.r_lt_mu;
      sg_bound = c.fst_at-sg.ensures.result_bound;
    }

pub returns-then-not-entry_ok : goal.returns-then-not-entry_ok
unfolding region_held_to
returns-then-not-entry_ok c = rw (← c.fst_at-sg.ensures.result_value, ← c.entry_ok.ensures, not-true c.entry_ok.result c.if-not-entry_ok.true-raw)

pub vblocks_ok-requires : goal.vblocks_ok-requires
vblocks_ok-requires c =
    record {
      blocks_asked = c.requires.blocks_asked;
      r_lt_mu = c.requires.r_lt_mu;
      sg_bound = c.fst_at-sg.ensures.result_bound;
    }

pub returns : goal.returns
unfolding region_held_to
returns c = rw (← c.fst_at-sg.ensures.result_value, ← c.entry_ok.ensures, not-false c.entry_ok.result c.if-not-entry_ok.false-raw) c.vblocks_ok.ensures
