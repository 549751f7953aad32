-- `call_release::release`: refused by a row, or the mark of the cluster's frame cleared and its CT entry set to none.
-- Assumes nothing.
use native.Mathlib.Omega.{arith}
use Rattle.rules.specs.Tables.{Board, board_of}
use Rattle.rules.specs.Requests.{lent, lent_answers, release}
use Rattle.outcomes.proofs.Ends.{refused_by}
use Rattle.call_release.proofs.Call.{entry_there, release_done, release_lookup, release_unmark}
use Rattle.call_release.proofs.release.Goals as goal
use Rattle.call_release.proofs.release.Goals.{Start}

abbrev board : Start → Board
board a = board_of a.args.chip.now a.args.ct.now a.args.bt.now a.args.fst.now a.args.bst.now a.args.wear.now a.args.marks.now a.args.stamps.now

pub returns-in-Err : goal.returns-in-Err
unfolding lent lent_answers
returns-in-Err c = refused_by _ (board (goal.at.returns-in-Err c).Start) (release c.args.cluster) _ c.in-Err.ensures _ c.idle.ensures

pub find_frame-old-requires : goal.find_frame-old-requires
find_frame-old-requires c = release_lookup _ (board (goal.at.find_frame-old-requires c).Start) _ c.in_default.ensures

pub region_of-requires : goal.region_of-requires
region_of-requires c =
    let look = release_lookup _ (board (goal.at.region_of-requires c).Start) _ c.in_default.ensures in
    record {
      p_value = look.fine;
      c_lt_c = look.low;
    }

pub unmark-requires : goal.unmark-requires
unmark-requires c =
    release_unmark _ (board (goal.at.unmark-requires c).Start) _ c.in_default.ensures _ _ _ _
    c.find_frame-old.ensures.stands c.find_frame-old.ensures.within _ c.region_of.ensures

pub set_ct-requires : goal.set_ct-requires
set_ct-requires c =
    record {
      c_in_bounds = entry_there _ (board (goal.at.set_ct-requires c).Start) _ c.in_default.ensures;
      sg_bound = omega arith;
    }

pub returns : goal.returns
returns c =
    release_done _ (board (goal.at.returns c).Start) _ c.in_default.ensures _ _ _ _
    c.find_frame-old.ensures.stands c.find_frame-old.ensures.within _ c.region_of.ensures _ _ c.set_ct.ensures
    c.unmark.ensures _ c.idle-2.ensures
