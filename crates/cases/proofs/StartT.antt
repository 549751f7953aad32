-- Board T: the rules give the starts and the refusals of specs/StartT.antt. Tests that antt computes, turned into equations as those of Board T are.
-- Assumes nothing.
use mathlib.Core.Path.{◌≡◌, refl}
use mathlib.Core.Bool.{true}
use Rattle.lists.specs.Parts.{same_list}
use Rattle.lists.proofs.Joins.{same_list→eq}
use Rattle.cases.specs.BoardT.{same_lists}
use Rattle.cases.specs.StartT.{chip_alone, found_t, refused_cases, refused_said, replies_t, start_cases, start_said, starts_t, with_copy}
use Rattle.cases.proofs.BoardT.{same_lists→eq}
use Rattle.cases.proofs.Names.{all_board_t}

start_test : same_lists start_cases start_said ≡ true
unfolding all_board_t chip_alone found_t starts_t with_copy start_cases start_said
start_test = refl

pub start_cases_lem : start_cases ≡ start_said
start_cases_lem = same_lists→eq start_cases start_said start_test

refused_test : same_list refused_cases refused_said ≡ true
unfolding all_board_t chip_alone with_copy replies_t refused_cases refused_said
refused_test = refl

pub refused_cases_lem : refused_cases ≡ refused_said
refused_cases_lem = same_list→eq refused_cases refused_said refused_test
