-- `cnftl::cnftl_format_cut`: the layer's format with a budget, its answer packed.
-- Assumes nothing.
use Rattle.rules.specs.Tables.{Board, board_of}
use Rattle.cnftl.proofs.Words.{few_by, given_by}
use Rattle.cnftl.proofs.cnftl_format_cut.Goals as goal
use Rattle.cnftl.proofs.cnftl_format_cut.Goals.{Start}

abbrev board : Start → Board
board a = board_of a.args.chip.now a.args.ct.now a.args.bt.now a.args.fst.now a.args.bst.now a.args.wear.now a.args.marks.now a.args.stamps.now

pub pack-requires : goal.pack-requires
pack-requires c = few_by _ _ c.params-p.ensures _ _ (board (goal.at.pack-requires c).Start) _ _ c.format_cut.ensures

pub shape_of-chip : goal.shape_of-chip
shape_of-chip c = c.chip-1.given

pub shape_of-ct : goal.shape_of-ct
shape_of-ct c = c.ct-1.given

pub shape_of-bt : goal.shape_of-bt
shape_of-bt c = c.bt-1.given

pub shape_of-fst : goal.shape_of-fst
shape_of-fst c = c.fst-1.given

pub shape_of-bst : goal.shape_of-bst
shape_of-bst c = c.bst-1.given

pub shape_of-wear : goal.shape_of-wear
shape_of-wear c = c.wear-1.given

pub shape_of-marks : goal.shape_of-marks
shape_of-marks c = c.marks-1.given

pub returns : goal.returns
returns c = given_by _ _ c.params-p.ensures _ _ (board (goal.at.returns c).Start) _ _ c.format_cut.ensures _ c.pack.ensures
