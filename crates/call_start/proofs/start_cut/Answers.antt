-- `call_start::start_cut`: refused by a row; with budget left over, the start itself; or cut after so many operations.
-- Assumes nothing.
use native.Mathlib.Omega.{arith}
use Rattle.rules.specs.Tables.{Board, board_of}
use Rattle.rules.specs.Requests.{lent, lent_answers, start}
use Rattle.starts.proofs.Accepted.{start_admitted}
use Rattle.start_work.proofs.Left.{long, start_asked}
use Rattle.outcomes.proofs.Ends.{refused_with}
use Rattle.call_start.proofs.Cut.{count_asked, cut_asked, start_ends, start_whole, still_accepted}
use Rattle.call_start.proofs.start_cut.Goals as goal
use Rattle.call_start.proofs.start_cut.Goals.{Start}

abbrev board : Start → Board
board a = board_of a.args.chip.now a.args.ct.now a.args.bt.now a.args.fst.now a.args.bst.now a.args.wear.now a.args.marks.now a.args.stamps.now

pub returns-in-Err : goal.returns-in-Err
unfolding lent lent_answers
returns-in-Err c = refused_with _ (board (goal.at.returns-in-Err c).Start) start _ c.in-Err.ensures _ _ c.idle.ensures

pub list_left-requires : goal.list_left-requires
list_left-requires c =
    let w = start_admitted _ (board (goal.at.list_left-requires c).Start) c.in_default.ensures in
    record {
      start_asked = start_asked _ _ w;
      bst_len = (long _ _ w).bst_length;
    }

pub count_listed-requires : goal.count_listed-requires
count_listed-requires c =
    let both = count_asked _ (board (goal.at.count_listed-requires c).Start) c.in_default.ensures _ c.list_left.ensures in
    record { p_value = both.0; bst_len = both.1.0; wear_len = both.1.1 }

pub rebuild-requires : goal.rebuild-requires
rebuild-requires c =
    still_accepted _ (board (goal.at.rebuild-requires c).Start) c.in_default.ensures _ _ c.bt-1.given
    c.list_left.ensures

pub returns-then-budget-count_listed : goal.returns-then-budget-count_listed
returns-then-budget-count_listed c =
    start_whole _ (board (goal.at.returns-then-budget-count_listed c).Start) c.in_default.ensures _ _ c.bt-1.given c.list_left.ensures
    _ _ c.count_listed.ensures (omega (arith, c.if-budget-count_listed.true)) _ c.rebuild.ensures

pub cut_after-requires : goal.cut_after-requires
cut_after-requires c =
    let both = cut_asked _ (board (goal.at.cut_after-requires c).Start) c.in_default.ensures _ _ c.bt-1.given c.list_left.ensures in
    record { p_value = both.0; stamps_value = both.1 }

pub returns : goal.returns
returns c =
    start_ends _ (board (goal.at.returns c).Start) c.in_default.ensures _ _ c.bt-1.given c.list_left.ensures _ _ c.count_listed.ensures (omega (arith, c.if-budget-count_listed.false)) _
    c.idle-2.ensures _ c.cut_after.ensures
