-- `demo_print::put_sectors`: the sectors passed stand in hex, each after a tab, up to `end`, and the iterator has what comes after them.
use Rattle.std.proofs.Common.{◌≡◌, ◌*◌, ◌≤◌, length, drop}
use Rattle.demo_print.specs.Output.{Put, sectors}
use Rattle.demo_print.proofs.put_sectors.Given as goal

abbrev pub invariant-loop-sector : goal.invariant-loop-sector
invariant-loop-sector l =
    Put (sectors (length l.yielded) l.bytes) l.fn.at l.fn.out l.out l.end
    × (l.sector-iterator.size ≡ 16) × (l.sector-iterator.rest.now ≡ drop (length l.yielded * 16) l.bytes) × (length l.yielded * 16 ≤ length l.bytes)
