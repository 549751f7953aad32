-- `call_why::explain`: by the reply; on an orderly board, by what the lookup found.
-- Assumes nothing.
use mathlib.Core.Path.{ap, refl, sym, ◌∙◌}
use mathlib.Core.Bool.{false, true}
use Rattle.rules.specs.Replies.{number_of}
use Rattle.rules.specs.Tables.{Board, board_of}
use Rattle.rules.proofs.Sizes.{sizes}
use Rattle.call_why.specs.Why.{numbers_of}
use Rattle.call_why.proofs.Answers.{asked, empty, forecast_is, held, lengths_at, looked, marks_right, passed, place_asked, small, stamp_in_lem, why_7, why_found, why_refused}
use Rattle.call_why.proofs.Small.{broken_small, refused_small}
use Rattle.call_why.proofs.explain.Goals as goal
use Rattle.call_why.proofs.explain.Goals.{Start}

abbrev board : Start → Board
board a = board_of a.args.board.chip.now a.args.board.ct.now a.args.board.bt.now a.args.board.fst.now a.args.board.bst.now a.args.board.wear.now a.args.board.marks.now a.args.board.stamps.now

pub broken_rule-broken-requires : goal.broken_rule-broken-requires
broken_rule-broken-requires c =
    let both = lengths_at _ (board (goal.at.broken_rule-broken-requires c).Start) _ (ap number_of c.in-Err.ensures.0 ∙ sym c.from-n.ensures ∙ c.if-n-eq7.true) in
    record { lengths = both.0; marks_len = both.1.0; stamps_len = both.1.1 }

pub returns-then-n-eq7 : goal.returns-then-n-eq7
unfolding numbers_of
returns-then-n-eq7 c =
    record {
      result_value = why_7 _ (board (goal.at.returns-then-n-eq7 c).Start) _ (ap number_of c.in-Err.ensures.0 ∙ sym c.from-n.ensures ∙ c.if-n-eq7.true) _ (c.broken_rule-broken.ensures _);
      small = broken_small c.broken_rule-broken.result;
    }

pub returns-in-Err : goal.returns-in-Err
unfolding numbers_of
returns-in-Err c =
    record {
      result_value = why_refused _ (board (goal.at.returns-in-Err c).Start) _ _ c.in-Err.ensures (λ z. c.if-n-eq7.false (c.from-n.ensures ∙ z));
      small = refused_small c.in-Err.reply;
    }

pub cluster_of-c-requires : goal.cluster_of-c-requires
cluster_of-c-requires c = (sizes _ (passed _ (board (goal.at.cluster_of-c-requires c).Start) _ c.in_default.ensures).ordered.fine).sectors

pub region_of-requires : goal.region_of-requires
region_of-requires c =
    let look = looked _ (board (goal.at.region_of-requires c).Start) _ (passed _ (board (goal.at.region_of-requires c).Start) _ c.in_default.ensures) _ c.cluster_of-c.ensures in
    record {
      p_value = look.fine;
      c_lt_c = look.low;
    }

pub forecast_of-fc-requires : goal.forecast_of-fc-requires
forecast_of-fc-requires c =
    record {
      forecast_asked = asked _ (board (goal.at.forecast_of-fc-requires c).Start) _ (passed _ (board (goal.at.forecast_of-fc-requires c).Start) _ c.in_default.ensures) _
          c.cluster_of-c.ensures _ c.region_of.ensures;
      r_in_bounds = stamp_in_lem _ (board (goal.at.forecast_of-fc-requires c).Start) _ (passed _ (board (goal.at.forecast_of-fc-requires c).Start) _ c.in_default.ensures) _ _ c.region_of.ensures;
    }

pub find_frame-at-requires : goal.find_frame-at-requires
find_frame-at-requires c = looked _ (board (goal.at.find_frame-at-requires c).Start) _ (passed _ (board (goal.at.find_frame-at-requires c).Start) _ c.in_default.ensures) _ c.cluster_of-c.ensures

pub returns-in_default-spot : goal.returns-in_default-spot
unfolding numbers_of
returns-in_default-spot c =
    let h = (passed _ (board (goal.at.returns-in_default-spot c).Start) _ c.in_default.ensures) in
    let fc = forecast_is _ (board (goal.at.returns-in_default-spot c).Start) _ h _ c.cluster_of-c.ensures _ c.region_of.ensures _ (c.forecast_of-fc.ensures _ (marks_right _ (board (goal.at.returns-in_default-spot c).Start) _ h)) in
    let e = empty _ (board (goal.at.returns-in_default-spot c).Start) _ false _ (rw c.in_default-spot.is at c.find_frame-at.ensures.stands) refl _ fc in
    record {
      result_value = why_found _ (board (goal.at.returns-in_default-spot c).Start) _ h _ c.cluster_of-c.ensures _ e;
      small = small _ (board (goal.at.returns-in_default-spot c).Start) _ h _ c.cluster_of-c.ensures _ e;
    }

pub place_at-requires : goal.place_at-requires
place_at-requires c =
    place_asked _ (board (goal.at.place_at-requires c).Start) _ true _ (rw c.in-Some.is at c.find_frame-at.ensures.stands) refl
    (looked _ (board (goal.at.place_at-requires c).Start) _ (passed _ (board (goal.at.place_at-requires c).Start) _ c.in_default.ensures) _
    c.cluster_of-c.ensures) _ _ (rw c.in-Some.is at c.find_frame-at.ensures.within)

pub returns : goal.returns
unfolding numbers_of
returns c =
    let h = (passed _ (board (goal.at.returns c).Start) _ c.in_default.ensures) in
    let fc = forecast_is _ (board (goal.at.returns c).Start) _ h _ c.cluster_of-c.ensures _ c.region_of.ensures _ (c.forecast_of-fc.ensures _ (marks_right _ (board (goal.at.returns c).Start) _ h)) in
    let at = c.place_at.ensures _ _ _ _ _ _ (rw c.in-Some.is at c.find_frame-at.ensures.within) in
    let e = held _ (board (goal.at.returns c).Start) _ true _ (rw c.in-Some.is at c.find_frame-at.ensures.stands) refl _ _ _ at fc c.find_frame-at.ensures.looked in
    record {
      result_value = why_found _ (board (goal.at.returns c).Start) _ h _ c.cluster_of-c.ensures _ e;
      small = small _ (board (goal.at.returns c).Start) _ h _ c.cluster_of-c.ensures _ e;
    }
