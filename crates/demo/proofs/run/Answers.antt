-- `demo::run`: the format of the blank board, and then the session.
-- Assumes nothing.
use Rattle.demo.proofs.Served.{benched, blank_board}
use Rattle.demo.proofs.run.Goals as goal

pub returns : goal.returns
returns g c = λ input i s.
    benched _ _ _ _ (blank_board _ c.blank_chip-chip.ensures) c.in_ok-start.ensures.started c.in_ok-start.ensures.text input (c.session.ensures input i s)
