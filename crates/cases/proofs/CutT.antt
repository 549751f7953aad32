-- Board T: the rules give the cuts of specs/CutT.antt. Tests that antt computes, turned into equations as those of Board T are.
-- Assumes nothing.
use mathlib.Core.Path.{◌≡◌, refl}
use mathlib.Core.Bool.{true}
use Rattle.cases.specs.BoardT.{same_lists}
use Rattle.cases.specs.StartT.{found_t}
use Rattle.rules.specs.Replies.{queue_rows}
use Rattle.rules.specs.Cuts.{cut_board, cut_outcome, finished, has_budget, is_cut, step_outcome}
use Rattle.cases.specs.CutT.{all_cut_t, cut_cases, cut_said, left_cases, left_said, queue_cases, queue_said}
use Rattle.cases.proofs.BoardT.{same_lists→eq}
use Rattle.cases.proofs.Names.{all_board_t}

cut_test : same_lists cut_cases cut_said ≡ true
unfolding all_board_t found_t has_budget is_cut finished cut_board cut_outcome step_outcome all_cut_t
cut_test = refl

pub cut_cases_lem : cut_cases ≡ cut_said
cut_cases_lem = same_lists→eq cut_cases cut_said cut_test

left_test : same_lists left_cases left_said ≡ true
unfolding all_board_t found_t has_budget is_cut finished cut_board cut_outcome step_outcome all_cut_t
left_test = refl

pub left_cases_lem : left_cases ≡ left_said
left_cases_lem = same_lists→eq left_cases left_said left_test

queue_test : same_lists queue_cases queue_said ≡ true
unfolding all_board_t queue_rows has_budget is_cut finished cut_board cut_outcome step_outcome all_cut_t
queue_test = refl

pub queue_cases_lem : queue_cases ≡ queue_said
queue_cases_lem = same_lists→eq queue_cases queue_said queue_test
