-- `chip_frames::host_page`: one of three leaves, by whether the sector is given and whether an old one is kept; each leaves the page that the host's frame has there (Host.antt).
-- Assumes nothing.
use native.Mathlib.Omega.{arith}
use Rattle.chip_frames.proofs.Host.{given_in, given_fits, given_asked, given_done, from_asked, kept_done, blank_done}
use Rattle.chip_frames.proofs.host_page.Goals as goal

pub overflow_sub-a : goal.overflow_sub-a
overflow_sub-a c = (given_in _ _ c.args.count c.if-given.true).0

pub overflow_mul-a : goal.overflow_mul-a
overflow_mul-a c = omega (arith, given_fits c.args.s c.args.off c.args.j c.args.count c.args.bytes.now c.if-given.true c.requires.given)

pub overflow_add-b : goal.overflow_add-b
overflow_add-b c = omega (arith, given_fits c.args.s c.args.off c.args.j c.args.count c.args.bytes.now c.if-given.true c.requires.given)

pub slice_bounds-program_at-end : goal.slice_bounds-program_at-end
slice_bounds-program_at-end c = given_fits c.args.s c.args.off c.args.j c.args.count c.args.bytes.now c.if-given.true c.requires.given

pub program_at-requires : goal.program_at-requires
program_at-requires c = given_asked _ _ _ _ _ _ _ _ _ c.requires 0 0 0 c.if-given.true

pub returns-then-given : goal.returns-then-given
returns-then-given c = given_done _ _ _ _ _ _ _ _ _ c.requires _ _ _ _ c.if-given.true c.program_at.ensures

pub program_from-requires : goal.program_from-requires
program_from-requires c = from_asked _ _ _ _ _ _ _ _ _ c.requires 0 0 0

pub returns-then-kept : goal.returns-then-kept
returns-then-kept c = kept_done _ _ _ _ _ _ _ _ _ c.requires _ _ _ _ c.if-given.false c.if-kept.true c.program_from.ensures

pub returns : goal.returns
returns c = blank_done _ _ _ _ _ _ _ _ _ c.requires _ _ _ _ c.if-given.false c.if-kept.false c.program_blank_at.ensures
