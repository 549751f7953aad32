-- `demo_serve::read`: the part that is lent is within the cluster's bytes, and is what the line's turn asks for.
-- Assumes nothing.
use mathlib.Core.Path.{sym}
use lib.ListN.{length-replicate}
use lib.Seq.{length-take-le}
use native.Mathlib.Omega.{arith}
use Rattle.demo_serve.proofs.Turns.{read_text, sent}
use Rattle.demo_serve.proofs.read.Goals as goal

pub slice_bounds-read_into-end : goal.slice_bounds-read_into-end
slice_bounds-read_into-end g c = sym (length-take-le _ _ (rw (c.filled-bytes.ensures, c.lent-n.ensures, length-replicate) (omega arith)))

pub read_into-requires : goal.read_into-requires
read_into-requires g c =
    let e = length-take-le c.lent-n.result c.filled-bytes.result (rw (c.filled-bytes.ensures, c.lent-n.ensures, length-replicate) (omega arith)) in
    omega (arith, e, c.lent-n.ensures)

pub returns : goal.returns
returns g c = rw (read_text _ _ _ _ (sent _ _ _ _ c.lent-n.ensures c.filled-bytes.ensures)) at c.read_into.ensures
