-- `call_why::forecast_of`: refused where the region has no stamp left, or the plan no block to write; else the plan.
-- Assumes nothing.
use mathlib.Core.Path.{◌≡◌}
use mathlib.Core.Bool.{false}
use Prim.Native.Nat.{◌<◌, ℕ}
use lib.Dec.{eqb}
use native.Mathlib.Omega.{arith}
use borrow.Author.Tests.{eq-eqb, le-leb, lt-leb, ne_eqb}
use mathlib.Core.List.{[]}
use Rattle.rules.specs.Tables.{board_of, not_found}
use Rattle.rules.specs.Replies.{no_stamp_left}
use Rattle.call_why.specs.Why.{forecast_in, forecast_numbers}
use Rattle.call_why.proofs.Forecasts.{block_asked, marks_long_lem, victim_asked}
use Rattle.call_why.proofs.forecast_of.Goals as goal

pub stamp_at-requires : goal.stamp_at-requires
stamp_at-requires c = c.requires.r_in_bounds

pub returns-then-stamp_at : goal.returns-then-stamp_at
unfolding forecast_numbers forecast_in no_stamp_left
returns-then-stamp_at c ct right = rw (← c.stamp_at.ensures, le-leb 4294967295 c.stamp_at.result (omega (arith, c.if-stamp_at.true)))

pub plan_of-pl-requires : goal.plan_of-pl-requires
plan_of-pl-requires c =
    record {
      plan_asked = c.requires.forecast_asked.plan;
      marks_len = marks_long_lem _ c.args.board.chip.now c.args.board.bt.now c.args.board.fst.now c.args.board.bst.now c.args.board.wear.now c.args.board.marks.now _ c.requires.forecast_asked;
    }

pub plan_block-requires : goal.plan_block-requires
plan_block-requires c = block_asked _ c.args.board.chip.now c.args.board.bt.now c.args.board.fst.now c.args.board.bst.now c.args.board.wear.now c.args.board.marks.now _ c.requires.forecast_asked _ c.plan_of-pl.ensures

pub returns-in_default : goal.returns-in_default
unfolding forecast_numbers forecast_in no_stamp_left
returns-in_default c ct right =
    rw (
      ← c.stamp_at.ensures,
      lt-leb 4294967295 c.stamp_at.result (omega (arith, c.if-stamp_at.false)),
      ← (c.plan_of-pl.ensures ct right),
      eq-eqb _ 65535 (c.in_default.ensures c.args.board.chip.now ct c.args.board.fst.now c.args.board.marks.now c.args.board.stamps.now),
    )

pub planned-requires : goal.planned-requires
planned-requires c = victim_asked _ c.args.board.chip.now c.args.board.bt.now c.args.board.fst.now c.args.board.bst.now c.args.board.wear.now c.args.board.marks.now _ c.requires.forecast_asked _ c.plan_of-pl.ensures

-- a block that is there is not none
taken : (n x : ℕ) → (n ≡ x) × (n < not_found) → eqb x not_found ≡ false
taken n x h = ne_eqb x not_found (λ e. omega (arith, e, h.0, h.1))

pub returns : goal.returns
unfolding forecast_in no_stamp_left
returns c ct right =
    rw (
      ← c.stamp_at.ensures,
      lt-leb 4294967295 c.stamp_at.result (omega (arith, c.if-stamp_at.false)),
      ← (c.plan_of-pl.ensures ct right),
      taken _ _ (c.in-Some.ensures c.args.board.chip.now ct c.args.board.fst.now c.args.board.marks.now c.args.board.stamps.now),
    )
    (c.planned.ensures (board_of c.args.board.chip.now ct c.args.board.bt.now c.args.board.fst.now [] [] [] []) right)
