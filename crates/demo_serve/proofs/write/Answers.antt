-- `demo_serve::write`: the part that is lent is within the cluster's bytes, and is what the line's turn asks to be written.
-- Assumes nothing.
use mathlib.Core.Path.{sym}
use lib.ListN.{length-replicate}
use lib.Seq.{length-take-le}
use native.Mathlib.Omega.{arith}
use Rattle.demo_session.specs.Session.{requested}
use Rattle.demo_serve.proofs.Turns.{sent, write_text, write_turned}
use Rattle.demo_serve.proofs.write.Goals as goal

pub slice_bounds-write-end-9 : goal.slice_bounds-write-end-9
slice_bounds-write-end-9 g c = sym (length-take-le _ _ (rw (c.filled-bytes.ensures, c.lent-n.ensures, length-replicate) (omega arith)))

pub returns-clause-turned : goal.returns-clause-turned
unfolding requested
returns-clause-turned g c =
    write_turned _ _ _ _ _
    (rw (c.board.ensures, sent _ _ _ _ c.lent-n.ensures c.filled-bytes.ensures) at c.write-a.ensures)

pub returns-clause-text : goal.returns-clause-text
unfolding requested
returns-clause-text g c =
    rw
    (write_text _ _ _ _ _
    (rw (c.board.ensures, sent _ _ _ _ c.lent-n.ensures c.filled-bytes.ensures) at c.write-a.ensures)) at (rw (c.as_slice.ensures.value, c.print_write.ensures) at c.write_all.ensures.bytes)
