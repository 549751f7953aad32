-- Board T with E = 2: the rules give the worn blocks of specs/WornT.antt. A test that antt computes, turned into an equation as those of Board T are.
-- Assumes nothing.
use mathlib.Core.Path.{◌≡◌, refl}
use mathlib.Core.Bool.{true}
use Rattle.rules.specs.Cuts.{cut_board, cut_outcome, finished}
use Rattle.cases.specs.BoardT.{same_lists}
use Rattle.cases.specs.WornT.{page_t, worn_cases, worn_cut, worn_params, worn_row, worn_run, worn_said}
use Rattle.cases.proofs.BoardT.{same_lists→eq}
use Rattle.cases.proofs.Names.{all_board_t}

worn_test : same_lists worn_cases worn_said ≡ true
unfolding all_board_t cut_board cut_outcome finished worn_params worn_row worn_run worn_cut page_t worn_cases worn_said
worn_test = refl

pub worn_cases_lem : worn_cases ≡ worn_said
worn_cases_lem = same_lists→eq worn_cases worn_said worn_test
