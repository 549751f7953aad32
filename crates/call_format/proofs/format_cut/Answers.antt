-- `call_format::format_cut`: refused by a row; with budget left over, the format itself; or cut after so many operations.
-- Assumes nothing.
use native.Mathlib.Omega.{arith}
use Rattle.rules.specs.Tables.{Board, board_of}
use Rattle.rules.specs.Requests.{format, lent, lent_answers}
use Rattle.outcomes.proofs.Ends.{refused_with}
use Rattle.call_format.proofs.Call.{asked}
use Rattle.call_format.proofs.Cut.{bst_long, cut_asked, format_ends, format_whole, still_accepted}
use Rattle.call_format.proofs.format_cut.Goals as goal
use Rattle.call_format.proofs.format_cut.Goals.{Start}

abbrev board : Start → Board
board a = board_of a.args.chip.now a.args.ct.now a.args.bt.now a.args.fst.now a.args.bst.now a.args.wear.now a.args.marks.now a.args.stamps.now

pub returns-in-Err : goal.returns-in-Err
unfolding lent lent_answers
returns-in-Err c = refused_with _ (board (goal.at.returns-in-Err c).Start) format _ c.in-Err.ensures _ _ c.idle.ensures

pub reserve_bad-requires : goal.reserve_bad-requires
reserve_bad-requires c =
    let w = asked _ (board (goal.at.reserve_bad-requires c).Start) c.in_default.ensures in
    record {
      p_value = w.fine;
      chip_len = w.chip_length;
      bst_len = w.bst_length;
    }

pub count_listed-requires : goal.count_listed-requires
count_listed-requires c =
    let w = asked _ (board (goal.at.count_listed-requires c).Start) c.in_default.ensures in
    record {
      p_value = w.fine;
      bst_len = bst_long _ (board (goal.at.count_listed-requires c).Start) c.in_default.ensures _ c.reserve_bad.ensures;
      wear_len = w.wear_length;
    }

pub format_all-requires : goal.format_all-requires
format_all-requires c =
    still_accepted _ (board (goal.at.format_all-requires c).Start) c.in_default.ensures _ c.reserve_bad.ensures

pub returns-then-budget-count_listed : goal.returns-then-budget-count_listed
returns-then-budget-count_listed c =
    format_whole _ (board (goal.at.returns-then-budget-count_listed c).Start) c.in_default.ensures _ c.reserve_bad.ensures
    _ _ c.count_listed.ensures (omega (arith, c.if-budget-count_listed.true)) _ c.format_all.ensures

pub cut_after-requires : goal.cut_after-requires
cut_after-requires c =
    let both = cut_asked _ (board (goal.at.cut_after-requires c).Start) c.in_default.ensures _ c.reserve_bad.ensures in
    record { p_value = both.0; stamps_value = both.1 }

pub returns : goal.returns
returns c =
    format_ends _ (board (goal.at.returns c).Start) c.in_default.ensures _ c.reserve_bad.ensures _ _ c.count_listed.ensures (omega (arith, c.if-budget-count_listed.false)) _
    c.idle-2.ensures _ c.cut_after.ensures
