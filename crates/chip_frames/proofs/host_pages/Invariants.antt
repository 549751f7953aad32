-- `chip_frames::host_pages`. The invariant: the chip is the one at entry with the first k pages of the host's frame put at frame `to`; a page that is still to be
-- read is not one of those, so that it is read as it was.
-- Assumes nothing.
use Prim.Native.Nat.{◌+◌}
use mathlib.Core.Path.{◌≡◌}
use Rattle.chip_frames.specs.Frame.{first_pages, host_frame, sectors_of}
use Rattle.chip_frames.proofs.host_pages.Given as goal

abbrev pub invariant-loop-k : goal.invariant-loop-k
invariant-loop-k l =
    l.chip ≡ first_pages (l.s + 16) l.n l.to (host_frame l.s l.n l.off l.count l.bytes (sectors_of l.s l.n l.kept l.old l.initial.chip) l.of.cluster.0 l.of.stamp l.of.vblock) l.initial.chip l.k
