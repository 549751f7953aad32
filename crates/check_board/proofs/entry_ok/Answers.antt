-- `check_board::entry_ok`: test by test.
-- Assumes nothing.
use mathlib.Core.Path.{◌∙◌, ◌≡◌}
use mathlib.Core.Bool.{not}
use Prim.Native.Nat.{◌<◌, ℕ}
use native.Mathlib.Omega.{arith}
use lib.Dec.{eqb}
use Rattle.std.specs.Option.{is_some}
use Rattle.std.specs.Prelude.{MatchOption, None, Option, Some}
use Rattle.rules.specs.declared.PBlock.{PBlock}
use Rattle.rules.specs.Tables.{none}
use borrow.Author.Tests.{le-ltb, lt-ltb}
use Rattle.rules.proofs.Sizes.{sizes}
use Rattle.check_blocks.proofs.Blocks.{not_none, vblock_low_lem}
use Rattle.check_board.specs.Order.{entry_ok}
use Rattle.check_board.proofs.entry_ok.Goals as goal

some_is : (o : Option PBlock) (x : ℕ) → MatchOption o (x ≡ none) (λ n. (n.0 ≡ x) × (n.0 < none)) → is_some o ≡ not (eqb x none)
some_is None x h = rw h
some_is (Some n) x h = rw (← h.0, not_none n.0 h.1)

pub empty_at-requires : goal.empty_at-requires
empty_at-requires c =
    record {
      bt_len = c.requires.bt_len;
      r_lt_mu = c.requires.r_lt_mu;
    }

pub returns-then-empty_at : goal.returns-then-empty_at
unfolding entry_ok
returns-then-empty_at c = rw (← c.empty_at.ensures, c.if-empty_at.true)

pub overflow_mul-p : goal.overflow_mul-p
overflow_mul-p c = omega (arith, (sizes _ c.requires.p_value).few)

pub returns-then-sg-p : goal.returns-then-sg-p
unfolding entry_ok
returns-then-sg-p c = rw (← c.empty_at.ensures, c.if-empty_at.false, le-ltb _ _ c.if-sg-p.true)

pub vblock_of-requires : goal.vblock_of-requires
vblock_of-requires c =
    record {
      p_value = c.requires.p_value;
      sg_bound = omega (arith, c.requires.sg_bound);
    }

pub block_named-requires-clause-v_lt_gamma : goal.block_named-requires-clause-v_lt_gamma
block_named-requires-clause-v_lt_gamma c = rw c.vblock_of.ensures (vblock_low_lem _ _ _ (sizes _ c.requires.p_value).segments c.if-sg-p.false)

pub returns : goal.returns
unfolding entry_ok
returns c =
    rw (← c.empty_at.ensures, c.if-empty_at.false, lt-ltb _ _ c.if-sg-p.false, ← c.vblock_of.ensures)
    (c.is_some.ensures ∙ some_is c.block_named.result _ c.block_named.ensures)
