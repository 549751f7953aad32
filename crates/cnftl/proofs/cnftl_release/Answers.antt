-- `cnftl::cnftl_release`: the layer's release, its answer packed.
-- Assumes nothing.
use Rattle.rules.specs.Tables.{Board, board_of}
use Rattle.cnftl.proofs.Words.{few, given}
use Rattle.cnftl.proofs.cnftl_release.Goals as goal
use Rattle.cnftl.proofs.cnftl_release.Goals.{Start}

abbrev board : Start → Board
board a = board_of a.args.chip.now a.args.ct.now a.args.bt.now a.args.fst.now a.args.bst.now a.args.wear.now a.args.marks.now a.args.stamps.now

pub pack-requires : goal.pack-requires
pack-requires c = few _ _ c.params-p.ensures _ _ (board (goal.at.pack-requires c).Start) _ _ c.release.ensures

pub shape_of-ct : goal.shape_of-ct
shape_of-ct c = c.ct-1.given

pub shape_of-marks : goal.shape_of-marks
shape_of-marks c = c.marks-1.given

pub returns : goal.returns
returns c = given _ _ c.params-p.ensures _ _ (board (goal.at.returns c).Start) _ _ c.release.ensures _ c.pack.ensures
