-- All the names that a computed case unfolds: those of the rules, and those of Board T.
-- Assumes nothing.
use Rattle.cases.specs.BoardT.{
  params_t,
  board_t,
  blank_t,
  asks,
  W,
  R,
  input_t,
  counted,
  printed,
  session_from,
  session_t,
  output_t,
  board_from,
  after,
  planned_t,
  formats_t,
  reads_t,
  reclaim_after,
  params_j,
  marked_cases,
  as_said,
  sixth_spares,
  spare_t,
  sixth_said,
  begun_t,
  begun_cases,
  begun_said,
  same_lists,
}
use Rattle.rules.proofs.Names.{all_rules}

unfoldable pub all_board_t : Unit {0}
unfolding all_rules params_t board_t blank_t asks W R input_t counted printed session_from session_t output_t board_from after planned_t formats_t reads_t reclaim_after params_j
    marked_cases as_said sixth_spares spare_t sixth_said begun_t begun_cases begun_said same_lists
all_board_t = tt
