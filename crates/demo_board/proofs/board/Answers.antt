-- `demo_board::board`: the parameters one by one.
-- Assumes nothing.
use mathlib.Core.Path.{refl}
use Rattle.cases.specs.BoardT.{board_t, params_t}
use Rattle.demo_board.proofs.board.Goals as goal

pub returns : goal.returns
unfolding board_t params_t
returns c = refl
